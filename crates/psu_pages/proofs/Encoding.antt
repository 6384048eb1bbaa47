-- The effect of each step of a commit on an image with a current root.
use Rattle.std.proofs.Common.{◌≡◌, ◌≢◌, ◌⊎◌, inl, inr, ℕ, ◌+◌, ◌<◌, ◌≤◌, List, [], ◌∷◌, length, map, sym, ◌∙◌, ap, subst, arith}
use Rattle.std.specs.List.{AllByRecursion}
use Rattle.std.proofs.lemmas.Bool.{cases_eq}
use Rattle.std.proofs.lemmas.Bool.Decides.{nat_tests}
use Rattle.psu_disk.specs.Disk.{SameBut}
use Rattle.psu_pages.specs.declared.root.Root.{Root}
use Rattle.psu_pages.specs.declared.root.Root.TheVariants.{First, Second}
use Rattle.psu_pages.specs.Image.{other, gate_at, gate, number_in, version_in, IsCurrent, current_root, Head, head_at, heads_in, names_in, page_in, taken, AreClear}
use Rattle.psu_pages.specs.Shown.{Item, items_in, Shows, HasContents, Encodes, Represents, EncodesEither, IsEither}
use Rattle.psu_pages.specs.Writing.{Misses}
use Rattle.psu_pages.proofs.Keeping.{at_is, AreOn, on_disk, number_same, contents_same, gate_missed, agrees_missed, gate_touched, agrees_touched, agrees_gate}

-- the heads of a root are on their pages
pub heads_there : (root : Root) (image : List ℕ) (heads : List Head) → heads_in root image ≡ heads → AllByRecursion (λ (head : Head). head_at image head.at ≡ head) heads
heads_there root image heads are = subst (AllByRecursion (λ (head : Head). head_at image head.at ≡ head)) are (by_name (names_in root image))
  where
    by_name : (names : List ℕ) → AllByRecursion (λ (head : Head). head_at image head.at ≡ head) (map (head_at image) names)
    by_name [] = tt
    by_name (name ∷ names) = (ap (head_at image) (at_is name (page_in name image)), by_name names)

-- which root is the current one
pub current_root_is : (root : Root) (image : List ℕ) → IsCurrent root image → current_root image ≡ root
current_root_is First image current = elim (cases_eq (gate Second image) 165) [
  | inl is_open ↦ let lower = current.highest is_open in let is = current.open_gate in grind (arith, nat_tests)
  | inr shut ↦ grind (arith, nat_tests)
]
current_root_is Second image current = elim (cases_eq (gate First image) 165) [
  | inl is_open ↦ let lower = current.highest is_open in let is = current.open_gate in grind (arith, nat_tests)
  | inr shut ↦ let is = current.open_gate in grind (arith, nat_tests)
]

-- the image represents what the current root shows
pub encodes_represents : (root : Root) (version limit number : ℕ) (heads : List Head) (items : List Item) (image : List ℕ) → Encodes root version limit number heads items image → Represents image limit items
encodes_represents root version limit number heads items image encodes =
    let is = sym (current_root_is root image encodes.current) in
    record {
      current = subst (λ (r : Root). IsCurrent r image) is encodes.current;
      shows = subst (λ (r : Root). Shows r image limit) is encodes.has_contents.shows;
      items_are = subst (λ (r : Root). items_in r image ≡ items) is encodes.has_contents.items_are;
    }

-- the number and the version of the current root
pub encodes_number : (root : Root) (version limit number : ℕ) (heads : List Head) (items : List Item) (image : List ℕ) → Encodes root version limit number heads items image → number_in (current_root image) image ≡ number
encodes_number root version limit number heads items image encodes = ap (λ (r : Root). number_in r image) (current_root_is root image encodes.current) ∙ encodes.has_contents.number_is

pub encodes_version : (root : Root) (version limit number : ℕ) (heads : List Head) (items : List Item) (image : List ℕ) → Encodes root version limit number heads items image → version_in (current_root image) image ≡ version
encodes_version root version limit number heads items image encodes = ap (λ (r : Root). version_in r image) (current_root_is root image encodes.current) ∙ encodes.has_contents.version_is

pub either_represents : (next : Root) (version limit number : ℕ) (before : List Head) (items : List Item) (heads : List Head) (target : List Item) (image : List ℕ) → EncodesEither next version limit number before items heads target image → IsEither limit items target image
either_represents next version limit number before items heads target image (inl encodes) = inl (encodes_represents (other next) version limit number before items image encodes)
either_represents next version limit number before items heads target image (inr encodes) = inr (encodes_represents next 2 limit (number + 1) heads target image encodes)

-- the other root than the one that is written is the current one
pub current_beside : (touched : Root) (x : List ℕ) → gate (other touched) x ≡ 165 → (gate touched x ≡ 165 → number_in touched x < number_in (other touched) x) → IsCurrent (other touched) x
current_beside First x is_open lower = record { open_gate = is_open; highest = lower }
current_beside Second x is_open lower = record { open_gate = is_open; highest = lower }

-- the disk has room for two roots, and for the pages of the heads
module _ (root : Root) (version limit number : ℕ) (heads : List Head) (items : List Item) (x : List ℕ) (has_contents : HasContents root version limit number heads items x) where
  pub room : 1024 ≤ length x
  room = omega (arith, has_contents.shows.room)

  pub its_pages : AreOn (length x) (taken (heads_in root x))
  its_pages = on_disk limit (length x) (taken (heads_in root x)) has_contents.shows.room has_contents.shows.pool

-- pages are written that aren't those of the current root
module _ (root : Root) (version limit number : ℕ) (heads : List Head) (items : List Item) (written x y : List ℕ) (pool : AllByRecursion (λ (page : ℕ). 2 ≤ page) written) (clear : AreClear written (taken heads)) (misses : Misses written x y) where
  pub number_missed : 1024 ≤ length x → (r : Root) → number_in r y ≡ number_in r x
  number_missed size r = number_same r x y size [] (agrees_missed written x y pool misses r [] tt tt)

  pub encodes_missed : Encodes root version limit number heads items x → Encodes root version limit number heads items y
  encodes_missed encodes =
      let size : 1024 ≤ length x = room root version limit number heads items x encodes.has_contents in
      let mine : AreClear written (taken (heads_in root x)) = subst (λ (hs : List Head). AreClear written (taken hs)) (sym encodes.has_contents.heads_are) clear in
      record {
        current = record {
          open_gate = gate_missed written x y pool misses root ∙ encodes.current.open_gate;
          highest = λ is. omega (arith, encodes.current.highest (sym (gate_missed written x y pool misses (other root)) ∙ is), number_missed size root, number_missed size (other root));
        };
        has_contents = contents_same root x y size (agrees_missed written x y pool misses root (taken (heads_in root x)) (its_pages root version limit number heads items x encodes.has_contents) mine) version limit number heads items encodes.has_contents;
      }

-- a range of the other root's page is written
module _ (touched : Root) (version limit number : ℕ) (heads : List Head) (items : List Item) (at n : ℕ) (low : gate_at touched ≤ at) (high : at + n ≤ gate_at touched + 512) (x y : List ℕ) (but : SameBut at n x y) where
  pub contents_touched : HasContents (other touched) version limit number heads items x → HasContents (other touched) version limit number heads items y
  contents_touched has_contents =
      contents_same (other touched) x y (room (other touched) version limit number heads items x has_contents)
      (agrees_touched touched at n low high x y but (taken (heads_in (other touched) x)) (its_pages (other touched) version limit number heads items x has_contents)) version limit number heads items has_contents

  -- whatever that root's contents are then, while its gate is closed
  pub encodes_shut : gate touched y ≢ 165 → Encodes (other touched) version limit number heads items x → Encodes (other touched) version limit number heads items y
  encodes_shut shut encodes = record {
    current = current_beside touched y (gate_touched touched at n low high x y but ∙ encodes.current.open_gate) (λ is. absurd (shut is));
    has_contents = contents_touched encodes.has_contents;
  }

  -- whatever that root's gate is then, while its number is lower
  pub encodes_lower : number_in touched y < number → Encodes (other touched) version limit number heads items x → Encodes (other touched) version limit number heads items y
  encodes_lower lower encodes =
      let has_contents = contents_touched encodes.has_contents in
      record { current = current_beside touched y (gate_touched touched at n low high x y but ∙ encodes.current.open_gate) (λ is. omega (arith, lower, has_contents.number_is)); has_contents = has_contents }

-- only that root's gate is written
module _ (touched : Root) (x y : List ℕ) (but : SameBut (gate_at touched) 1 x y) (size : 1024 ≤ length x) where
  pub number_gate : number_in touched y ≡ number_in touched x
  number_gate = number_same touched x y size [] (agrees_gate touched (gate_at touched) 1 (omega arith) (omega arith) x y but (omega arith) [] tt)

-- the gate of the next root, whose contents are written, opens beside the root that was the current one
module _ (next : Root) (version limit number : ℕ) (before heads : List Head) (items target : List Item) (x y : List ℕ) (encodes : Encodes (other next) version limit number before items x) (has_contents : HasContents next 2 limit (number + 1) heads target x) (but : SameBut (gate_at next) 1 x y) where
  contents_opened : HasContents next 2 limit (number + 1) heads target y
  contents_opened =
      contents_same next x y (room next 2 limit (number + 1) heads target x has_contents)
      (agrees_gate next (gate_at next) 1 (omega arith) (omega arith) x y but (omega arith) (taken (heads_in next x)) (its_pages next 2 limit (number + 1) heads target x has_contents)) 2 limit (number + 1) heads target has_contents

  contents_before : HasContents (other next) version limit number before items y
  contents_before = contents_touched next version limit number before items (gate_at next) 1 (omega arith) (omega arith) x y but encodes.has_contents

  current_opened : gate next y ≡ 165 → IsCurrent next y
  current_opened is_open = record { open_gate = is_open; highest = λ is. omega (arith, contents_before.number_is, contents_opened.number_is) }

  pub encodes_opened : gate next y ≡ 165 → Encodes next 2 limit (number + 1) heads target y
  encodes_opened is_open = record { current = current_opened is_open; has_contents = contents_opened }

  pub lower_opened : number_in (other next) y < number + 1
  lower_opened = omega (arith, contents_before.number_is)

  pub opens : Encodes (other next) version limit number before items y ⊎ Encodes next 2 limit (number + 1) heads target y
  opens = elim (cases_eq (gate next y) 165) [
    | inl is_open ↦ inr (encodes_opened is_open)
    | inr shut ↦ inl (encodes_shut next version limit number before items (gate_at next) 1 (omega arith) (omega arith) x y but shut encodes)
  ]
