-- If one of two maps is represented, a test finds which.
use Rattle.std.proofs.Common.{◌≡◌, ◌⊎◌, inl, inr, ℕ, Bool, true, false, ◌&&◌, List, bytes_eq, Decides, ⊎_elim, refl, sym, ◌∙◌, ap, subst}
use Rattle.std.proofs.Props.{props}
use Rattle.std.proofs.lemmas.Bool.{cases_Bool}
use Rattle.std.proofs.lemmas.Bool.Decides.{not_from_Decides}
use Rattle.std.proofs.lemmas.Slice.Eq.{bytes_eq-Decides, slice_eq-Decides}
use Rattle.std.proofs.Math.Logic.{∥∥₁_elim}
use Rattle.std.specs.Cmp.Lexicographic.{pointwise}
use Rattle.psu_disk.specs.Disk.{DiskState, IsCrashImage}
use Rattle.psu_disk.specs.Ranges.{reads_left}
use Rattle.psu_pages.specs.Finding.{IfImage}
use Rattle.psu_pages.specs.declared.faults.OpenCause.{OpenCause}
use Rattle.psu_pages.specs.declared.faults.OpenCause.TheVariants as Unopened
use Rattle.psu_map.specs.Map.{Item, item_of}
use Rattle.psu_map.specs.CapacityLaws.{IsSorted-IsProp}
use Rattle.psu_pages.specs.declared.root.Root.{Root}
use Rattle.psu_pages.specs.Single.{Shows-IsProp}
use Rattle.psu_items.specs.declared.broken.BrokenCause.TheVariants.{Strange}
use Rattle.psu_items.specs.Image.{RootHolds, Represents, IsEither, EachIsEither, IsRefusal}
use Rattle.psu_items.specs.Recovering.{broken_cause}
use Rattle.psu_items.proofs.Fitting.{represents_unrefused}
use Rattle.psu_items.proofs.Standing.{represents_one}

RootHolds-IsProp : (root : Root) (image : List ℕ) (limit : ℕ) (m : List Item) → IsProp (RootHolds root image limit m)
RootHolds-IsProp root image limit m = hlevel (props, Shows-IsProp, IsSorted-IsProp)

Represents-IsProp : (image : List ℕ) (limit : ℕ) (m : List Item) → IsProp (Represents image limit m)
Represents-IsProp image limit m = hlevel (props, RootHolds-IsProp)

same_item : Item → Item → Bool
same_item i j = bytes_eq i.key j.key && bytes_eq i.value j.value

and_true : (a b : Bool) → (a && b) ≡ true → (a ≡ true) × (b ≡ true)
and_true true b e = (refl, e)
and_true false b e = absurd cc

item_same : (i j : Item) → i.key ≡ j.key → i.value ≡ j.value → i ≡ j
item_same i j key value = ap (λ (k : List ℕ). item_of k i.value) key ∙ ap (λ (v : List ℕ). item_of j.key v) value

same_item-Decides : (i j : Item) → Decides (same_item i j) (i ≡ j)
unfolding same_item
same_item-Decides i j = (
  λ e. let both = and_true (bytes_eq i.key j.key) (bytes_eq i.value j.value) e in item_same i j ((bytes_eq-Decides i.key j.key).0 both.0) ((bytes_eq-Decides i.value j.value).0 both.1),
  λ e. let k = (bytes_eq-Decides i.key j.key).1 (ap (λ (x : Item). x.key) e) in let v = (bytes_eq-Decides i.value j.value).1 (ap (λ (x : Item). x.value) e) in cc,
)

maps_Decide : (a b : List Item) → Decides (pointwise same_item a b) (a ≡ b)
maps_Decide a b = slice_eq-Decides same_item-Decides a b (pointwise same_item a b) refl

sum_prop : {A B : Type 0} → IsProp A → IsProp B → (A → B → ⊥) → IsProp (A ⊎ B)
sum_prop pa pb apart (inl a) (inl b) = ap inl (pa a b)
sum_prop pa pb apart (inl a) (inr b) = absurd (apart a b)
sum_prop pa pb apart (inr a) (inl b) = absurd (apart b a)
sum_prop pa pb apart (inr a) (inr b) = ap inr (pb a b)

either : (limit : ℕ) (before target : List Item) (x : List ℕ) → ∥ IsEither limit before target x ∥₁ → IsEither limit before target x
either limit before target x h = elim (cases_Bool (pointwise same_item before target)) [
  | inl one ↦
      let same : before ≡ target = (maps_Decide before target).0 one in
      inl (∥∥₁_elim h (Represents-IsProp x limit before) (⊎_elim (λ s. s) (λ s. subst (λ (m : List Item). Represents x limit m) (sym same) s)))
  | inr two ↦
      let apart : before ≡ target → ⊥ = not_from_Decides (pointwise same_item before target) (maps_Decide before target) two in
      ∥∥₁_elim h (sum_prop (Represents-IsProp x limit before) (Represents-IsProp x limit target) (λ p q. apart (let one = represents_one limit limit before target x p q in one.1))) (λ e. e)
]

-- what holds of a broken store, taken from its ghost field
pub each_either : (disk : DiskState) (limit : ℕ) (before target : List Item) → ((x : List ℕ) → IsCrashImage disk x → ∥ IsEither limit before target x ∥₁) → EachIsEither disk limit before target
each_either disk limit before target h x l = either limit before target x (h x l)

-- an image that represents a map is refused only for a failed call or an allocation failure
unrefused : (x : List ℕ) (limit : ℕ) (m : List Item) (cause : OpenCause) → Represents x limit m → IfImage cause (IsRefusal x) → broken_cause cause ≡ Strange → ⊥
unrefused x limit m Unopened.Device st refusal strange = cc
unrefused x limit m (Unopened.Image bad) st refusal strange = represents_unrefused x limit m bad st refusal
unrefused x limit m Unopened.Memory st refusal strange = cc

pub not_strange : (disk : DiskState) (limit : ℕ) (before target : List Item) (cause : OpenCause) → EachIsEither disk limit before target → IfImage cause (IsRefusal disk.bytes) → broken_cause cause ≡ Strange → ⊥
not_strange disk limit before target cause all refusal strange =
    ⊎_elim (λ st. unrefused disk.bytes limit before cause st refusal strange) (λ st. unrefused disk.bytes limit target cause st refusal strange) (all disk.bytes (reads_left disk))

-- the map found is one of the two, where the second was computed from the batch
pub one_found : (disk : DiskState) (limit found_limit : ℕ) (before target made found : List Item) → made ≡ target → EachIsEither disk limit before target → Represents disk.bytes found_limit found → (found_limit ≡ limit) × ((found ≡ before) ⊎ (found ≡ made))
one_found disk limit found_limit before target made found is all represented =
    ⊎_elim (λ st. let one = represents_one found_limit limit found before disk.bytes represented st in (one.0, inl one.1)) (λ st. let one = represents_one found_limit limit found target disk.bytes represented st in (one.0, inr (one.1 ∙ sym is))) (all disk.bytes (reads_left disk))
