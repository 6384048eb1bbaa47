-- The facts about pages are propositions, so that a ghost field may hold them.
use Rattle.std.specs.Prelude.{◌≡◌, ◌≢◌, ◌≤◌, ℕ, Bool, false, List, [], ◌∷◌, length}
use Rattle.std.specs.List.{AllByRecursion}
use Rattle.std.proofs.Props.{props}
use Rattle.psu_pages.specs.declared.root.Root.{Root}
use Rattle.psu_pages.specs.Image.{Head, heads_in, version_in, taken, keys, key_most, IsHead, IsInPool, AreApart}
use Rattle.psu_pages.specs.Shown.{Item, Shows, HasContents, Encodes, Represents}
use Rattle.psu_pages.specs.Free.{is_free, AreClaimed, IsRoster}

all-IsProp : {X : Type 0} (P : X → Type 0) → ((x : X) → IsProp (P x)) → (xs : List X) → IsProp (AllByRecursion P xs)
all-IsProp P each [] = hlevel props
all-IsProp P each (x ∷ xs) = hlevel (props, each, all-IsProp P each xs)

pages-IsProp : (pages : List ℕ) → IsProp (AreApart pages)
pages-IsProp [] = hlevel props
pages-IsProp (page ∷ pages) =
    let none = all-IsProp (λ (other : ℕ). page ≢ other) (λ other. hlevel props) pages in
    hlevel (props, none, pages-IsProp pages)

keys-IsProp : (lists : List (List ℕ)) → IsProp (AreApart lists)
keys-IsProp [] = hlevel props
keys-IsProp (key ∷ lists) =
    let none = all-IsProp (λ (other : List ℕ). key ≢ other) (λ other. hlevel props) lists in
    hlevel (props, none, keys-IsProp lists)

head-IsProp : (head : Head) → IsProp (IsHead head)
head-IsProp head = hlevel props

pub Shows-IsProp : (root : Root) (image : List ℕ) (limit : ℕ) → IsProp (Shows root image limit)
Shows-IsProp root image limit =
    let heads = all-IsProp IsHead head-IsProp (heads_in root image) in
    let pool = all-IsProp (IsInPool limit) (λ page. hlevel props) (taken (heads_in root image)) in
    let apart = pages-IsProp (taken (heads_in root image)) in
    let distinct = keys-IsProp (keys (heads_in root image)) in
    let short = all-IsProp (λ (head : Head). length head.key ≤ key_most (version_in root image)) (λ head. hlevel props) (heads_in root image) in
    hlevel (props, heads, short, pool, apart, distinct)

HasContents-IsProp : (root : Root) (version limit number : ℕ) (heads : List Head) (items : List Item) (image : List ℕ) → IsProp (HasContents root version limit number heads items image)
HasContents-IsProp root version limit number heads items image = hlevel (props, Shows-IsProp)

pub Encodes-IsProp : (root : Root) (version limit number : ℕ) (heads : List Head) (items : List Item) (image : List ℕ) → IsProp (Encodes root version limit number heads items image)
Encodes-IsProp root version limit number heads items image = hlevel (props, HasContents-IsProp)

pub Represents-IsProp : (image : List ℕ) (limit : ℕ) (items : List Item) → IsProp (Represents image limit items)
Represents-IsProp image limit items = hlevel (props, Shows-IsProp)

pub AreClaimed-IsProp : (free : List Bool) (pages : List ℕ) → IsProp (AreClaimed free pages)
AreClaimed-IsProp free pages = all-IsProp (λ (page : ℕ). is_free free page ≡ false) (λ page. hlevel props) pages

pub IsRoster-IsProp : (limit : ℕ) (heads : List Head) → IsProp (IsRoster limit heads)
IsRoster-IsProp limit heads =
    let each = all-IsProp IsHead head-IsProp heads in
    let pool = all-IsProp (IsInPool limit) (λ page. hlevel props) (taken heads) in
    let apart = pages-IsProp (taken heads) in
    let distinct = keys-IsProp (keys heads) in
    hlevel (props, each, pool, apart, distinct)
