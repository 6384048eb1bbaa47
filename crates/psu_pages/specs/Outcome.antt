-- What the calls on pages require and ensure.
use Rattle.std.specs.Prelude.{◌≡◌, ℕ, ◌+◌, ◌/◌, true, false, List, [], map, Result, Ok, Err}
use Rattle.std.specs.List.{AllByRecursion}
use Rattle.psu_disk.specs.Disk.{IsCrashImage, SameBut}
use Rattle.psu_disk.specs.declared.disk.Disk.{Ghosts}
use Rattle.psu_pages.specs.Free.{is_free, AreClaimed, Marks, HandsOver}
use Rattle.psu_pages.specs.Image.{other, gate_at, Head, IsHead, IsInPool, AreApart, AreClear, taken, pages_of}
use Rattle.psu_pages.specs.Shown.{item_in, items_in, Encodes, EncodesEither}
use Rattle.psu_pages.specs.Writing.{Reaches}
use Rattle.psu_pages.specs.declared.pages.Pages.{Pages}
use Rattle.psu_pages.specs.declared.root.Root.TheVariants.{First}
use Rattle.psu_pages.specs.declared.faults.FormatFault.{FormatFault}
use Rattle.psu_pages.specs.declared.faults.ImageError.{ImageError}
use Rattle.psu_pages.specs.declared.standing.Standing.TheVariants.{One, Both}

-- the image encodes the root, the heads and the items of these pages
abbrev pub EncodesPages : {D A : Type 0} {G : Ghosts D} → Pages D A G → List ℕ → Type 0
EncodesPages {D} {A} {G} pages = Encodes pages.root pages.version pages.limit pages.number pages.heads.items (items_in pages.root (Ghosts.state G pages.disk).bytes)

-- the image encodes these pages, or as the next root these heads, with the items that the disk has for them
abbrev pub EncodesPagesOrHeads : {D A : Type 0} {G : Ghosts D} → Pages D A G → List Head → List ℕ → Type 0
EncodesPagesOrHeads {D} {A} {G} pages heads =
    let bytes = (Ghosts.state G pages.disk).bytes in
    EncodesEither (other pages.root) pages.version pages.limit pages.number pages.heads.items (items_in pages.root bytes) heads (map (item_in bytes) heads)

-- only the gate of the older root is written
abbrev pub Closes : {D A : Type 0} {G : Ghosts D} → Pages D A G → List ℕ → Type 0
Closes {D} {A} {G} pages = Reaches (SameBut (gate_at (other pages.root)) 1) (IsCrashImage (Ghosts.state G pages.disk))

-- the head has pages that are claimed and that no root names
pub record IsPlanned {D A : Type 0} {G : Ghosts D} (pages : Pages D A G) (head : Head) : Type 0 where
  pub is_head : IsHead head
  pub pool : AllByRecursion (IsInPool pages.limit) (pages_of head)
  pub apart : AreApart (pages_of head)
  pub claimed : AreClaimed pages.free (pages_of head)
  pub unnamed : AreClear (pages_of head) (taken pages.heads.items)
  pub unnamed_before : AreClear (pages_of head) (taken pages.older.items)

-- the number of pages that an item takes whose value has so many bytes
abbrev pub pages_for : ℕ → ℕ
pages_for size = 1 + (size + 511) / 512

-- pages that were free were claimed for an item with this key and a value of so many bytes
pub record HasPlanned {D A : Type 0} {G : Ghosts D} (old new : Pages D A G) (key : List ℕ) (size : ℕ) (head : Head) : Type 0 where
  pub key_is : head.key ≡ key
  pub size_is : head.size ≡ size
  pub planned : IsPlanned new head
  pub were_free : AllByRecursion (λ (page : ℕ). is_free old.free page ≡ true) (pages_of head)
  pub claims : Marks false (pages_of head) old.free new.free

-- the disk and its roots are as they were
pub record HasSameRoots {D A : Type 0} {G : Ghosts D} (old new : Pages D A G) : Type 0 where
  pub disk : new.disk ≡ old.disk
  pub root : new.root ≡ old.root
  pub limit : new.limit ≡ old.limit
  pub version : new.version ≡ old.version
  pub number : new.number ≡ old.number
  pub standing : new.standing ≡ old.standing
  pub heads : new.heads ≡ old.heads
  pub older : new.older ≡ old.older

-- all but the disk, and the state of the gates, is as it was
pub record HasSameHeads {D A : Type 0} {G : Ghosts D} (old new : Pages D A G) : Type 0 where
  pub root : new.root ≡ old.root
  pub limit : new.limit ≡ old.limit
  pub version : new.version ≡ old.version
  pub number : new.number ≡ old.number
  pub heads : new.heads ≡ old.heads
  pub older : new.older ≡ old.older
  pub free : new.free ≡ old.free

-- the next root is the current one, is of version 2 and names these heads; the gate of the previous one is open
pub record HasPublished {D A : Type 0} {G : Ghosts D} (old new : Pages D A G) (heads : List Head) : Type 0 where
  pub root : new.root ≡ other old.root
  pub version : new.version ≡ 2
  pub number : new.number ≡ old.number + 1
  pub standing : new.standing ≡ Both
  pub heads_are : new.heads.items ≡ heads
  pub older : new.older ≡ old.heads
  pub free : new.free ≡ old.free

-- the current root is the only open one, and the pages are free that only the older one named
pub record HasClosed {D A : Type 0} {G : Ghosts D} (old new : Pages D A G) : Type 0 where
  pub root : new.root ≡ old.root
  pub version : new.version ≡ old.version
  pub number : new.number ≡ old.number
  pub standing : new.standing ≡ One
  pub heads : new.heads ≡ old.heads
  pub older : new.older.items ≡ []
  pub free : HandsOver (taken old.older.items) (taken old.heads.items) old.free new.free

-- a freshly formatted disk: it has no heads, and all of the pool is free
pub record IsFresh {D A : Type 0} {G : Ghosts D} (limit : ℕ) (pages : Pages D A G) : Type 0 where
  pub root : pages.root ≡ First
  pub limit_is : pages.limit ≡ limit
  pub version : pages.version ≡ 2
  pub number : pages.number ≡ 1
  pub standing : pages.standing ≡ One
  pub heads : pages.heads.items ≡ []
  pub free : (page : ℕ) → IsInPool limit page → is_free pages.free page ≡ true

-- the disk of formatted pages, or the one returned with the error
abbrev pub formatted_disk : {D A : Type 0} {G : Ghosts D} → Result (Pages D A G) (FormatFault D) → D
formatted_disk (Ok pages) = pages.disk
formatted_disk (Err e) = e.disk

-- the disk of opened pages, or the one returned with the error
abbrev pub opened_disk : {D A : Type 0} {G : Ghosts D} → Result (Pages D A G) (ImageError D) → D
opened_disk (Ok pages) = pages.disk
opened_disk (Err e) = e.disk
