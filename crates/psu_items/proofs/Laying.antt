-- The heads that the next root is to name, slot by slot.
use Rattle.std.proofs.Common.{◌≡◌, ◌≢◌, ℕ, zero, suc, ◌+◌, ◌<◌, List, [], ◌∷◌, ◌++◌, length, get_or, take, Bool, true, false, Some, cond, refl, sym, ◌∙◌, ap, subst, arith}
use Rattle.std.specs.List.{AllByRecursion}
use Rattle.std.proofs.lemmas.List.{take_more, append-nil, get_or_default}
use Rattle.psu_disk.specs.declared.disk.Disk.{Ghosts}
use Rattle.psu_map.specs.Map.{Item, get, Before, IsSorted}
use Rattle.psu_map.proofs.Keys.{same_true, before_not_same, never_before_itself}
use Rattle.psu_map.proofs.Lists.{all_zip}
use Rattle.psu_pages.specs.declared.pages.Pages.{Pages}
use Rattle.psu_pages.specs.Image.{Head, IsNone, AreApart, AreClear, pages_of, taken, keys}
use Rattle.psu_pages.specs.Free.{is_free, AreClaimed}
use Rattle.psu_pages.specs.Outcome.{IsPlanned, HasSameRoots}
use Rattle.psu_pages.proofs.Lists.{all_at, all_map, all_left, all_right, all_join, apart_left, apart_right, apart_join, apart_clear, clear_none, clear_swap, clear_by}
use Rattle.psu_pages.proofs.Taken.{taken_all, taken_apart, taken-append, clear_join}
use Rattle.psu_pages.proofs.Taken.{keys-append as head_keys-append}
use Rattle.psu_items.specs.declared.layout.Slot.{Slot}
use Rattle.psu_items.specs.Layout.{IsOneOf, heads_of, keys_in, value_of, value_at, IsSlotFor, IsSlot, AreSlots}

-- the value of a key is that of its item
own_value : (items : List Item) (at : ℕ) (d : Item) → IsSorted items → at < length items → (let i = get_or items at d in get items i.key) ≡ Some (let i = get_or items at d in i.value)
own_value [] at d sorted lt = absurd (omega (arith, lt))
own_value (i ∷ items) zero d sorted lt = ap (λ (b : Bool). cond b (Some i.value) (get items i.key)) (same_true i.key i.key refl)
own_value (i ∷ items) (suc at) d sorted lt =
    let within : at < length items = omega (arith, lt) in
    let j = get_or items at d in
    let before : Before i.key j.key = all_at (λ (x : Item). Before i.key x.key) items at d within sorted.0 in
    ap (λ (b : Bool). cond b (Some i.value) (get items j.key)) (before_not_same i.key j.key before) ∙ own_value items at d sorted.1 within

-- a key isn't among those before it
pub sorted_none : (items : List Item) (n : ℕ) (d : Item) → IsSorted items → n < length items → IsNone (keys_in (take n items)) (let i = get_or items n d in i.key)
sorted_none [] n d sorted lt = absurd (omega (arith, lt))
sorted_none (i ∷ items) zero d sorted lt = tt
sorted_none (i ∷ items) (suc n) d sorted lt =
    let within : n < length items = omega (arith, lt) in
    let j = get_or items n d in
    let before : Before i.key j.key = all_at (λ (x : Item). Before i.key x.key) items n d within sorted.0 in
    (λ same. never_before_itself i.key (subst (Before i.key) same before), sorted_none items n d sorted.1 within)

pub keys-append : (xs : List Item) (i : Item) → keys_in (xs ++ i ∷ []) ≡ keys_in xs ++ i.key ∷ []
keys-append [] i = refl
keys-append (x ∷ xs) i = ap (λ (l : List (List ℕ)). x.key ∷ l) (keys-append xs i)

pub keys_more : (items : List Item) (n : ℕ) (d : Item) → n < length items → keys_in (take (n + 1) items) ≡ keys_in (take n items) ++ (let i = get_or items n d in i.key) ∷ []
keys_more items n d lt = ap keys_in (take_more items n d lt) ∙ keys-append (take n items) (get_or items n d)

-- two heads that one root names share no page
pub two_clear : (heads : List Head) (i j : ℕ) (d e : Head) → i < length heads → j < length heads → i ≢ j → AreApart (taken heads) → AreClear (pages_of (get_or heads i d)) (pages_of (get_or heads j e))
two_clear [] i j d e lt_i lt_j differ apart = absurd (omega (arith, lt_i))
two_clear (h ∷ heads) zero zero d e lt_i lt_j differ apart = absurd (differ refl)
two_clear (h ∷ heads) zero (suc j) d e lt_i lt_j differ apart = taken_all (IsNone (pages_of h)) heads j e (omega (arith, lt_j)) (apart_clear (pages_of h) (taken heads) apart)
two_clear (h ∷ heads) (suc i) zero d e lt_i lt_j differ apart =
    clear_swap (pages_of h) (pages_of (get_or heads i d)) (taken_all (IsNone (pages_of h)) heads i d (omega (arith, lt_i)) (apart_clear (pages_of h) (taken heads) apart))
two_clear (h ∷ heads) (suc i) (suc j) d e lt_i lt_j differ apart =
    two_clear heads i j d e (omega (arith, lt_i)) (omega (arith, lt_j)) (λ same. differ (ap suc same)) (apart_right (pages_of h) (taken heads) apart)

module _ {A : Type 0} where
  pub heads-append : (xs ys : List (Slot A)) → heads_of (xs ++ ys) ≡ heads_of xs ++ heads_of ys
  heads-append [] ys = refl
  heads-append (x ∷ xs) ys = ap (λ (l : List Head). x.head ∷ l) (heads-append xs ys)

  -- the pages of one more slot
  pub pages_more : (slots : List (Slot A)) (s : Slot A) → taken (heads_of (slots ++ s ∷ [])) ≡ taken (heads_of slots) ++ pages_of s.head
  pages_more slots s = ap taken (heads-append slots (s ∷ [])) ∙ taken-append (heads_of slots) (s.head ∷ []) ∙ ap (λ (l : List ℕ). taken (heads_of slots) ++ l) (append-nil (pages_of s.head))

  pub each_pages : (Q : ℕ → Type 0) (slots : List (Slot A)) → AllByRecursion Q (taken (heads_of slots)) → AllByRecursion (λ (s : Slot A). AllByRecursion Q (pages_of s.head)) slots
  each_pages Q [] all = tt
  each_pages Q (s ∷ slots) all = (all_left Q (pages_of s.head) (taken (heads_of slots)) all, each_pages Q slots (all_right Q (pages_of s.head) (taken (heads_of slots)) all))

  pub join_pages : (Q : ℕ → Type 0) (slots : List (Slot A)) → AllByRecursion (λ (s : Slot A). AllByRecursion Q (pages_of s.head)) slots → AllByRecursion Q (taken (heads_of slots))
  join_pages Q [] all = tt
  join_pages Q (s ∷ slots) all = all_join Q (pages_of s.head) (taken (heads_of slots)) all.0 (join_pages Q slots all.1)

  join_clear : (pages : List ℕ) (slots : List (Slot A)) → AllByRecursion (λ (s : Slot A). AreClear (pages_of s.head) pages) slots → AreClear (taken (heads_of slots)) pages
  join_clear pages [] all = clear_none pages
  join_clear pages (s ∷ slots) all = clear_join (pages_of s.head) (taken (heads_of slots)) pages all.0 (join_clear pages slots all.1)

  each_key : (key : List ℕ) (slots : List (Slot A)) → IsNone (keys (heads_of slots)) key → AllByRecursion (λ (s : Slot A). key ≢ s.head.key) slots
  each_key key [] none = tt
  each_key key (s ∷ slots) none = (none.0, each_key key slots none.1)

  -- the last of these slots shares no page with the others
  pub last_clear : (slots : List (Slot A)) (s : Slot A) → AreApart (taken (heads_of (slots ++ s ∷ []))) → AreClear (pages_of s.head) (taken (heads_of slots))
  last_clear slots s apart = clear_swap (taken (heads_of slots)) (pages_of s.head) (apart_clear (taken (heads_of slots)) (pages_of s.head) (subst (λ (l : List ℕ). AreApart l) (pages_more slots s) apart))

  pub rest_apart : (slots : List (Slot A)) (s : Slot A) → AreApart (taken (heads_of (slots ++ s ∷ []))) → AreApart (taken (heads_of slots))
  rest_apart slots s apart = apart_left (taken (heads_of slots)) (pages_of s.head) (subst (λ (l : List ℕ). AreApart l) (pages_more slots s) apart)

-- what holds of all pages of these heads holds of the pages of one head
pub one_all : (P : ℕ → Type 0) (heads : List Head) (head : Head) → IsOneOf heads head → AllByRecursion P (taken heads) → AllByRecursion P (pages_of head)
one_all P heads head one all = subst (λ (h : Head). AllByRecursion P (pages_of h)) one.2 (taken_all P heads one.0 head one.1 all)

one_apart : (heads : List Head) (head : Head) → IsOneOf heads head → AreApart (taken heads) → AreApart (pages_of head)
one_apart heads head one apart = subst (λ (h : Head). AreApart (pages_of h)) one.2 (taken_apart heads one.0 head one.1 apart)

-- two of these heads with different keys share no page
ones_clear : (heads : List Head) (a b : Head) → IsOneOf heads a → IsOneOf heads b → (b.key ≢ a.key) → AreApart (taken heads) → AreClear (pages_of a) (pages_of b)
ones_clear heads a b one two differ apart =
    subst (λ (h : Head). AreClear (pages_of h) (pages_of b)) one.2 (subst (λ (h : Head). AreClear (pages_of (get_or heads one.0 a)) (pages_of h)) two.2
    (two_clear heads one.0 two.0 a b one.1 two.1 (λ same. differ (ap (λ (h : Head). h.key) (sym two.2 ∙ ap (λ (n : ℕ). get_or heads n b) (sym same) ∙ default heads one.0 b a one.1 ∙ one.2))) apart))
  where
    default : (hs : List Head) (n : ℕ) (d e : Head) → n < length hs → get_or hs n d ≡ get_or hs n e
    default hs n d e lt = get_or_default hs n d e lt

-- a slot is made for an item
module _ {D A : Type 0} {G : Ghosts D} (old new : Pages D A G) (roots : HasSameRoots old new) (others : (o : Head) → IsPlanned old o → IsPlanned new o) (before target : List Item) where
  heads_same : new.heads.items ≡ old.heads.items
  heads_same = ap (λ v. v.items) roots.heads

  slot_still : (s : Slot A) → IsSlot old before target s → IsSlot new before target s
  slot_still s is = record {
    has = is.has;
    size_is = is.size_is;
    planned = λ e. others s.head (is.planned e);
    kept = λ e. subst (λ (hs : List Head). IsOneOf hs s.head) (sym heads_same) (is.kept e);
    stands = is.stands;
  }

  slot_new : (item : Item) (s : Slot A) → get target item.key ≡ Some item.value → IsSlotFor old new before item s → IsSlot new before target s
  slot_new item s own is =
      let has : get target s.head.key ≡ Some item.value = ap (get target) is.key_is ∙ own in
      let value : item.value ≡ value_at target s.head.key = sym (ap value_of has) in
      record {
        has = has ∙ ap (λ (v : List ℕ). Some v) value;
        size_is = is.size_is ∙ ap (λ (v : List ℕ). length v) value;
        planned = is.planned;
        kept = λ e. subst (λ (hs : List Head). IsOneOf hs s.head) (sym heads_same) (is.kept e);
        stands = λ e. ap (get before) is.key_is ∙ is.stands e ∙ sym has;
      }

  pub claimed_one : (o : Slot A) → IsSlot old before target o → AreClaimed old.free (pages_of o.head)
  claimed_one o is = by_kind o.is_new refl
    where
      by_kind : (b : Bool) → o.is_new ≡ b → AreClaimed old.free (pages_of o.head)
      by_kind true e = (is.planned e).claimed
      by_kind false e = one_all (λ (p : ℕ). is_free old.free p ≡ false) old.heads.items o.head (is.kept e) old.claimed

  beside_one : (s o : Slot A) → IsOneOf old.heads.items s.head → IsSlot old before target o → s.head.key ≢ o.head.key → AreClear (pages_of o.head) (pages_of s.head)
  beside_one s o one is differ = by_kind o.is_new refl
    where
      by_kind : (b : Bool) → o.is_new ≡ b → AreClear (pages_of o.head) (pages_of s.head)
      by_kind true e = one_all (IsNone (pages_of o.head)) old.heads.items s.head one (is.planned e).unnamed
      by_kind false e = ones_clear old.heads.items o.head s.head (is.kept e) one differ old.roster.apart

  clear_new : (slots : List (Slot A)) (item : Item) (s : Slot A) → AllByRecursion (IsSlot old before target) slots → IsNone (keys (heads_of slots)) s.head.key → IsSlotFor old new before item s → AreClear (taken (heads_of slots)) (pages_of s.head)
  clear_new slots item s each none is = by_kind s.is_new refl
    where
      by_kind : (b : Bool) → s.is_new ≡ b → AreClear (taken (heads_of slots)) (pages_of s.head)
      by_kind true e = clear_by (is_free old.free) false true (λ same. cc) (taken (heads_of slots)) (pages_of s.head) (join_pages (λ (p : ℕ). is_free old.free p ≡ false) slots (all_map (IsSlot old before target) (λ (o : Slot A). AreClaimed old.free (pages_of o.head)) claimed_one slots each)) (is.were_free e)
      by_kind false e = join_clear (pages_of s.head) slots (all_zip (IsSlot old before target) (λ (o : Slot A). s.head.key ≢ o.head.key) (λ (o : Slot A). AreClear (pages_of o.head) (pages_of s.head)) (λ o slot differ. beside_one s o (is.kept e) slot differ) slots each (each_key s.head.key slots none))

  own_apart : (item : Item) (s : Slot A) → IsSlotFor old new before item s → AreApart (pages_of s.head)
  own_apart item s is = by_kind s.is_new refl
    where
      by_kind : (b : Bool) → s.is_new ≡ b → AreApart (pages_of s.head)
      by_kind true e = (is.planned e).apart
      by_kind false e = one_apart old.heads.items s.head (is.kept e) old.roster.apart

  -- one more slot
  pub slots_more : (slots after : List (Slot A)) (n : ℕ) (d item : Item) (s : Slot A) → IsSorted target → n < length target → item ≡ get_or target n d → after ≡ slots ++ s ∷ [] → IsSlotFor old new before item s
      → AreSlots old before target (take n target) slots → AreSlots new before target (take (n + 1) target) after
  slots_more slots after n d item s sorted lt item_is after_is is so =
      let key : s.head.key ≡ (let i = get_or target n d in i.key) = is.key_is ∙ ap (λ (i : Item). i.key) item_is in
      let none : IsNone (keys (heads_of slots)) s.head.key = subst (λ (ks : List (List ℕ)). IsNone ks s.head.key) (sym so.keys_are) (subst (IsNone (keys_in (take n target))) (sym key) (sorted_none target n d sorted lt)) in
      let own : get target item.key ≡ Some item.value = subst (λ (i : Item). get target i.key ≡ Some i.value) (sym item_is) (own_value target n d sorted lt) in
      let made : AreSlots new before target (take (n + 1) target) (slots ++ s ∷ []) = record {
        keys_are = ap keys (heads-append slots (s ∷ [])) ∙ head_keys-append (heads_of slots) s.head ∙ ap (λ (ks : List (List ℕ)). ks ++ s.head.key ∷ []) so.keys_are ∙ ap (λ (k : List ℕ). keys_in (take n target) ++ k ∷ []) key ∙ sym (keys_more target n d lt);
        each = all_join (IsSlot new before target) slots (s ∷ []) (all_map (IsSlot old before target) (IsSlot new before target) slot_still slots so.each) (slot_new item s own is, tt);
        apart = subst (λ (l : List ℕ). AreApart l) (sym (pages_more slots s)) (apart_join (taken (heads_of slots)) (pages_of s.head) so.apart (own_apart item s is) (clear_new slots item s so.each none is));
      } in
      subst (AreSlots new before target (take (n + 1) target)) (sym after_is) made

-- two steps leave the roots unchanged if each does
pub roots_on : {D A : Type 0} {G : Ghosts D} (old mid new : Pages D A G) → HasSameRoots old mid → HasSameRoots mid new → HasSameRoots old new
roots_on old mid new first second = record { disk = second.disk ∙ first.disk; root = second.root ∙ first.root; version = second.version ∙ first.version; limit = second.limit ∙ first.limit; number = second.number ∙ first.number; standing = second.standing ∙ first.standing; heads = second.heads ∙ first.heads; older = second.older ∙ first.older }

-- the last of the slots is freed
module _ {D A : Type 0} {G : Ghosts D} (pages : Pages D A G) (slots rest : List (Slot A)) (s : Slot A) (are : slots ≡ rest ++ s ∷ []) (planned : AllByRecursion (λ (o : Slot A). o.is_new ≡ true → IsPlanned pages o.head) slots) (apart : AreApart (taken (heads_of slots))) where
  all_planned : AllByRecursion (λ (o : Slot A). o.is_new ≡ true → IsPlanned pages o.head) (rest ++ s ∷ [])
  all_planned = subst (AllByRecursion (λ (o : Slot A). o.is_new ≡ true → IsPlanned pages o.head)) are planned

  all_apart : AreApart (taken (heads_of (rest ++ s ∷ [])))
  all_apart = subst (λ (l : List (Slot A)). AreApart (taken (heads_of l))) are apart

  pub last_planned : s.is_new ≡ true → IsPlanned pages s.head
  last_planned = let last = all_right (λ (o : Slot A). o.is_new ≡ true → IsPlanned pages o.head) rest (s ∷ []) all_planned in last.0

  pub left_planned : AllByRecursion (λ (o : Slot A). o.is_new ≡ true → IsPlanned pages o.head) rest
  left_planned = all_left (λ (o : Slot A). o.is_new ≡ true → IsPlanned pages o.head) rest (s ∷ []) all_planned

  pub left_apart : AreApart (taken (heads_of rest))
  left_apart = rest_apart rest s all_apart

  pub still_planned : (new : Pages D A G) → ((o : Head) → IsPlanned pages o → AreClear (pages_of s.head) (pages_of o) → IsPlanned new o) → AllByRecursion (λ (o : Slot A). o.is_new ≡ true → IsPlanned new o.head) rest
  still_planned new others =
      all_zip (λ (o : Slot A). o.is_new ≡ true → IsPlanned pages o.head) (λ (o : Slot A). AreClear (pages_of s.head) (pages_of o.head)) (λ (o : Slot A). o.is_new ≡ true → IsPlanned new o.head) (λ o p clear is_new. others o.head (p is_new) clear) rest left_planned
      (each_pages (IsNone (pages_of s.head)) rest (last_clear rest s all_apart))

-- the slots with planned pages
module _ {D A : Type 0} {G : Ghosts D} (pages : Pages D A G) (before target items : List Item) where
  pub slots_planned : (slots : List (Slot A)) → AreSlots pages before target items slots → AllByRecursion (λ (o : Slot A). o.is_new ≡ true → IsPlanned pages o.head) slots
  slots_planned slots so = all_map (IsSlot pages before target) (λ (o : Slot A). o.is_new ≡ true → IsPlanned pages o.head) (λ o is. is.planned) slots so.each

  pub planned_still : (new : Pages D A G) → ((o : Head) → IsPlanned pages o → IsPlanned new o) → (slots : List (Slot A)) → AreSlots pages before target items slots → AllByRecursion (λ (o : Slot A). o.is_new ≡ true → IsPlanned new o.head) slots
  planned_still new others slots so = all_map (IsSlot pages before target) (λ (o : Slot A). o.is_new ≡ true → IsPlanned new o.head) (λ o is e. others o.head (is.planned e)) slots so.each
