-- A seat that has taken the object.
use Rattle.std.proofs.Common.{◌≡◌, ℕ, ◌+◌, ◌^◌, ◌<◌, ◌≤◌, ◌==◌, nat_le, Bool, true, false, List, [], ◌∷◌, refl, sym, ap, ◌∙◌, subst, arith, Option, Some, None, is_some}
use Rattle.std.proofs.lemmas.Bool.{and_parts, eqb-true, leb-true}
use Rattle.psu_turn.specs.declared.counted_object.CountedObject.{CountedObject}
use Rattle.psu_turn.specs.declared.stage.Stage.{Stage}
use Rattle.psu_turn.specs.declared.stage.Stage.TheVariants.{Idle, Waiting, Called, Out, Done}
use Rattle.psu_turn.specs.declared.name.Name.{Name}
use Rattle.psu_turn.specs.declared.name.Name.TheVariants.{Spent, Unnamed, Named}
use Rattle.psu_turn.specs.declared.inherited.Inherited.{Inherited}
use Rattle.psu_turn.specs.declared.inherited.Inherited.TheVariants.{Nothing, From}
use Rattle.psu_turn.specs.Steps.{Sat}
use Rattle.psu_turn.specs.Sights.{number_of, state_out, is_named, has_taken, is_alone, has_slot, is_out}

abbrev pub held : {T : Type 0} → T → ℕ → CountedObject T
held object count = record { object = object; count = count }

-- each fact of `is_out`
pub record IsOut {T S E : Type 0} (ticket count : ℕ) (m : Sat T S E) : Type 0 where
  pub opening : S
  pub opened : m.0.opening ≡ Some opening
  pub named : m.0.name ≡ Named (number_of m.0.name)
  pub state : S
  pub stage : m.0.stage ≡ Out ticket state count
  pub alone : m.0.inherited ≡ Nothing
  pub empty : m.1 ≡ (0, None) ∷ []
  pub few : count ≤ ticket
  pub most : ticket < 2 ^ 62

false_true : false ≡ true → ⊥
false_true e = subst is_it (sym e) tt where
  is_it : Bool → Type 0
  is_it true = Unit {0}
  is_it false = ⊥

named_is : (n : Name) → is_named n ≡ true → n ≡ Named (number_of n)
named_is Spent e = absurd (false_true e)
named_is (Unnamed k) e = absurd (false_true e)
named_is (Named k) e = refl

alone_is : {E : Type 0} (x : Inherited E) → is_alone x ≡ true → x ≡ Nothing
alone_is Nothing e = refl
alone_is (From k seen mine) e = absurd (false_true e)

opened_is : {S : Type 0} (o : Option S) → is_some o ≡ true → (x : S) × (o ≡ Some x)
opened_is None e = absurd (false_true e)
opened_is (Some x) e = (x, refl)

slot_is : {T : Type 0} (l : List (ℕ × Option (CountedObject T))) → has_slot l ≡ true → l ≡ (0, None) ∷ []
slot_is [] e = absurd (false_true e)
slot_is ((k, None) ∷ []) e = ap (λ (n : ℕ). (n, None) ∷ []) (eqb-true k 0 e)
slot_is ((k, Some h) ∷ []) e = absurd (false_true e)
slot_is (x ∷ y ∷ slots) e = absurd (false_true e)

taken_is : {S : Type 0} (t c : ℕ) (g : Stage S) → has_taken t c g ≡ true → (x : S) × (g ≡ Out t x c) × (c ≤ t) × (t < 2 ^ 62)
taken_is t c Idle e = absurd (false_true e)
taken_is t c (Waiting u) e = absurd (false_true e)
taken_is t c (Called u) e = absurd (false_true e)
taken_is t c (Done u x d) e = absurd (false_true e)
taken_is t c (Out u x d) e =
    let one = and_parts _ (nat_le (u + 1) (2 ^ 62)) e in let two = and_parts _ (nat_le d u) one.0 in let three = and_parts (u == t) (d == c) two.0 in
    let same_t : u ≡ t = eqb-true u t three.0 in let same_c : d ≡ c = eqb-true d c three.1 in
    let few : d ≤ u = leb-true d u two.1 in let most : u + 1 ≤ 2 ^ 62 = leb-true (u + 1) (2 ^ 62) one.1 in
    (x, (λ i. Out (same_t i) x (same_c i)), omega arith, omega arith)

module _ {T S E : Type 0} where
  pub outs : (t c : ℕ) (m : Sat T S E) → is_out t c m ≡ true → IsOut t c m
  outs t c m e =
      let one = and_parts _ (has_slot m.1) e in let two = and_parts _ (is_alone m.0.inherited) one.0 in let three = and_parts _ (has_taken t c m.0.stage) two.0 in let four = and_parts (is_some m.0.opening) (is_named m.0.name) three.0 in
      let o = opened_is m.0.opening four.0 in let g = taken_is t c m.0.stage three.1 in record {
        opening = o.0;
        opened = o.1;
        named = named_is m.0.name four.1;
        state = g.0;
        stage = g.1;
        alone = alone_is m.0.inherited two.1;
        empty = slot_is m.1 one.1;
        few = g.2;
        most = g.3;
      }

-- the state in which it was taken, as callers know it
pub was_state : {S : Type 0} (g : Stage S) (t : ℕ) (x before : S) (c : ℕ) → g ≡ Out t x c → state_out g ≡ Some before → before ≡ x
was_state {S} g t x before c is was = some_of (sym was ∙ ap state_out is) where
  or_else : Option S → S
  or_else None = x
  or_else (Some y) = y

  some_of : Some before ≡ Some x → before ≡ x
  some_of e = ap or_else e
