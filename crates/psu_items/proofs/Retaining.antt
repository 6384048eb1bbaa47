-- The heads that the roots of two images name, where a commit kept heads.
use Rattle.std.proofs.Common.{◌≡◌, ℕ, ◌+◌, ◌*◌, ◌≤◌, List, [], ◌∷◌, length, map, Some, sym, ◌∙◌, ap, subst, arith, length-append}
use Rattle.std.specs.List.{AllByRecursion}
use Rattle.std.proofs.lemmas.List.{length-take-le}
use Rattle.psu_disk.specs.Disk.{IsCrashImage}
use Rattle.psu_disk.specs.Ranges.{length-range}
use Rattle.psu_disk.specs.declared.disk.Disk.{Ghosts}
use Rattle.psu_pages.specs.Image.{Head, IsHead, IsInPool, current_root, heads_in, page_in, bytes_in, value_in, pages_of}
use Rattle.psu_pages.specs.Outcome.{EncodesPages}
use Rattle.psu_pages.specs.declared.pages.Pages.{Pages}
use Rattle.psu_pages.specs.declared.root.Root.{Root}
use Rattle.psu_pages.proofs.Encoding.{current_root_is}
use Rattle.psu_pages.proofs.Lists.{all_at}
use Rattle.psu_map.specs.Map.{Item, get}
use Rattle.psu_map.specs.Batch.{Edit}
use Rattle.psu_items.specs.Image.{as_item, listed}
use Rattle.psu_items.specs.Layout.{IsOneOf, HaveKept}
use Rattle.psu_items.specs.Standing.{ShowsMap}
use Rattle.psu_items.specs.Writing.{EachKeepsHeads}
use Rattle.psu_items.proofs.Laying.{one_all}
use Rattle.psu_items.proofs.Roster.{listed_value}
use Rattle.psu_items.proofs.Standing.{surely}

-- a value is as long as its head says
bytes_long : (limit : ℕ) (x pages : List ℕ) → 512 * (2 + 2 * limit) ≤ length x → AllByRecursion (IsInPool limit) pages → length (bytes_in x pages) ≡ 512 * length pages
bytes_long limit x [] room pool = omega arith
bytes_long limit x (page ∷ pages) room pool =
    let below = pool.0.1 in
    omega (arith, length-append (page_in page x) (bytes_in x pages), length-range (512 * page) 512 x (omega (arith, room, below)), bytes_long limit x pages room pool.1)

value_long : (limit : ℕ) (x : List ℕ) (head : Head) → 512 * (2 + 2 * limit) ≤ length x → IsHead head → AllByRecursion (IsInPool limit) (pages_of head) → head.size ≡ length (value_in x head)
value_long limit x head room is pool = sym (length-take-le head.size (bytes_in x head.pages) (omega (arith, is.count, bytes_long limit x head.pages room pool.1)))

module _ {D A : Type 0} {G : Ghosts D} (h : Ghosts.honest G) (pages : Pages D A G) (m : List Item) (shows : ShowsMap pages m) (x : List ℕ) (left : IsCrashImage (Ghosts.state G pages.disk) x) where
  abbrev encodes : EncodesPages pages x
  encodes = pages.encodes h (surely pages.standing shows.one) x left

  heads_are : heads_in (current_root x) x ≡ pages.heads.items
  heads_are = ap (λ (r : Root). heads_in r x) (current_root_is pages.root x encodes.current) ∙ encodes.has_contents.heads_are

  shown_are : (key : List ℕ) → get m key ≡ get (listed x pages.heads.items) key
  shown_are key = shows.holds h key ∙ ap (λ is. get (map as_item is) key) (sym encodes.has_contents.items_are) ∙ ap (λ (hs : List Head). get (listed x hs) key) encodes.has_contents.heads_are

  -- a head that the root names
  module _ (head : Head) (one : IsOneOf (heads_in (current_root x) x) head) where
    one_held : IsOneOf pages.heads.items head
    one_held = subst (λ (hs : List Head). IsOneOf hs head) heads_are one

    one_value : get m head.key ≡ Some (value_in x head)
    one_value = shown_are head.key ∙ subst (λ (hd : Head). get (listed x pages.heads.items) hd.key ≡ Some (value_in x hd)) one_held.2 (listed_value x pages.heads.items one_held.0 head one_held.1 pages.roster.distinct)

    one_size : head.size ≡ length (value_in x head)
    one_size =
        let is : IsHead head = subst IsHead one_held.2 (all_at IsHead pages.heads.items one_held.0 head one_held.1 pages.roster.each) in
        value_long pages.limit x head encodes.has_contents.shows.room is (one_all (IsInPool pages.limit) pages.heads.items head one_held pages.roster.pool)

-- the heads that a commit keeps
module _ {D A : Type 0} {G : Ghosts D} (h : Ghosts.honest G) (old new : Pages D A G) (m target : List Item) (before : ShowsMap old m) (after : ShowsMap new target) where
  pub each_kept : (edits : List Edit) → HaveKept edits m old.heads.items new.heads.items → EachKeepsHeads edits (Ghosts.state G old.disk) (Ghosts.state G new.disk)
  each_kept edits have x y was is head one keeps =
      subst (λ (hs : List Head). IsOneOf hs head) (sym (heads_are h new target after y is))
      (have head (value_in x head) (one_held h old m before x was head one) (one_value h old m before x was head one) keeps (one_size h old m before x was head one))
