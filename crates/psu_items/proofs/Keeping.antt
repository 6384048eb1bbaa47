-- What a commit keeps: the heads of the items that no edit changes.
use Rattle.std.proofs.Common.{◌≡◌, inl, inr, ℕ, zero, suc, ◌+◌, ◌<◌, ◌≤◌, true, List, [], ◌∷◌, ◌++◌, length, get_or, take, Some, refl, sym, ◌∙◌, ap, subst, arith, length-append}
use Rattle.std.proofs.lemmas.Bool.{cases_lt}
use Rattle.std.proofs.lemmas.List.{get_or_append_left, get_or_default, get_or_push, take_more}
use Rattle.psu_map.specs.Map.{Item}
use Rattle.psu_items.specs.Layout.{HasHead, IsOneOf, HaveStanding, heads_of}
use Rattle.psu_map.specs.Target.{Entry, standing}
use Rattle.psu_map.proofs.Keeping.{standing_last}
use Rattle.psu_items.proofs.Laying.{heads-append}
use Rattle.psu_items.specs.declared.layout.Slot.{Slot}
use Rattle.psu_pages.specs.Image.{Head, AreApart, keys}
use Rattle.psu_pages.proofs.Taken.{key_differs}

-- the search passed one more place
pub none_more : (P : ℕ → Type 0) (from at : ℕ) → ((j : ℕ) → from ≤ j → j < at → P j → ⊥) → (P at → ⊥) → (j : ℕ) → from ≤ j → j < at + 1 → P j → ⊥
none_more P from at before here j low lt has = elim (cases_lt j at) [
  | inl less ↦ before j low less has
  | inr ge ↦ here (subst P (omega (arith, ge, lt)) has)
]

-- the head at a place, and what follows for the item
module _ (heads : List Head) (item : Item) (at : ℕ) (head : Head) (is : head ≡ get_or heads at head) where
  pub has_it : at < length heads → head.key ≡ item.key → head.size ≡ length item.value → HasHead heads item at
  has_it lt key size =
      let same : (d : Head) → get_or heads at d ≡ head = λ d. get_or_default heads at d head lt ∙ sym is in
      record { within = lt; key_is = λ d. ap (λ (h : Head). h.key) (same d) ∙ key; size_is = λ d. ap (λ (h : Head). h.size) (same d) ∙ size }

  pub key_of : HasHead heads item at → head.key ≡ item.key
  key_of has = ap (λ (h : Head). h.key) is ∙ has.key_is head

  pub size_of : HasHead heads item at → head.size ≡ length item.value
  size_of has = ap (λ (h : Head). h.size) is ∙ has.size_is head

-- a head with the item's key and its value's length is the item's head, at its place
pub one_has : (heads : List Head) (item : Item) (head : Head) (one : IsOneOf heads head) → head.key ≡ item.key → head.size ≡ length item.value → HasHead heads item one.0
one_has heads item head one = has_it heads item one.0 head (sym one.2) one.1

-- each key has one head
pub one_key : (heads : List Head) (i j : ℕ) (d e : Head) → AreApart (keys heads) → i < length heads → j < length heads → (let h = get_or heads i d in h.key) ≡ (let h = get_or heads j e in h.key) → get_or heads i d ≡ get_or heads j e
one_key [] i j d e apart lt_i lt_j same = absurd (omega (arith, lt_i))
one_key (h ∷ heads) zero zero d e apart lt_i lt_j same = refl
one_key (h ∷ heads) zero (suc j) d e apart lt_i lt_j same = absurd (key_differs h.key heads j e (omega (arith, lt_j)) apart.0 same)
one_key (h ∷ heads) (suc i) zero d e apart lt_i lt_j same = absurd (key_differs h.key heads i d (omega (arith, lt_i)) apart.0 (sym same))
one_key (h ∷ heads) (suc i) (suc j) d e apart lt_i lt_j same = one_key heads i j d e apart.1 (omega (arith, lt_i)) (omega (arith, lt_j)) same

-- ---- slots for unchanged entries

one_before : (heads more : List Head) (head : Head) → IsOneOf heads head → IsOneOf (heads ++ more) head
one_before heads more head one = (one.0, omega (arith, one.1, length-append heads more), get_or_append_left heads more head one.0 one.1 ∙ one.2)

one_last : (heads : List Head) (head : Head) → IsOneOf (heads ++ head ∷ []) head
one_last heads head = (length heads, omega (arith, length-append heads (head ∷ [])), get_or_push heads head head (length heads) refl)

-- one more entry has its slot
module _ {A : Type 0} (entries : List Entry) (n : ℕ) (e : Entry) (lt : n < length entries) (is : e ≡ get_or entries n e) (heads : List Head) (slots after : List (Slot A)) (s : Slot A) (are : after ≡ slots ++ s ∷ []) where
  pub have_more : HaveStanding (take n entries) heads slots → (e.stands ≡ true → (head : Head) → IsOneOf heads head → head.key ≡ e.key → head.size ≡ length e.value → s.head ≡ head) → HaveStanding (take (n + 1) entries) heads after
  have_more have own head value one stands size =
      let last : standing (take n entries ++ e ∷ []) head.key ≡ Some value = ap (λ (x : Entry). standing (take n entries ++ x ∷ []) head.key) is ∙ ap (λ (es : List Entry). standing es head.key) (sym (take_more entries n e lt)) ∙ stands in
      let named : heads_of after ≡ heads_of slots ++ s.head ∷ [] = ap heads_of are ∙ heads-append slots (s ∷ []) in
      subst (λ (hs : List Head). IsOneOf hs head) (sym named)
      (elim (standing_last (take n entries) e head.key value last) [
        | inl before ↦ one_before (heads_of slots) (s.head ∷ []) head (have head value one before size)
        | inr its ↦ subst (λ (h : Head). IsOneOf (heads_of slots ++ h ∷ []) head) (sym (own its.0 head one (sym its.1) (size ∙ ap length (sym its.2)))) (one_last (heads_of slots) head)
      ])
