-- The header that a text begins with, up to white space or the end.
use Rattle.std.proofs.Common.{◌≡◌, ℕ, suc, ◌+◌, ◌<◌, ◌≤◌, ◌==◌, ◌&&◌, Bool, true, false, List, [], ◌∷◌, ◌++◌, length, take, drop, slice_index, drop-cons, add-one, refl, sym, ap, ◌∙◌, subst, append_assoc, inl, inr, if◌then◌else◌, arith}
use Rattle.std.proofs.lemmas.Bool.{cases_Bool, eqb-true}
use Rattle.std.proofs.lemmas.Bool.Decides.{nat_tests}
use Rattle.std.proofs.lemmas.Grind.{common_steps}
use Rattle.std.proofs.lemmas.List.{append-nil, drop_all}
use Rattle.std.proofs.Math.Seq.{take-add}
use Rattle.psu_lex.specs.Bytes.{is_dark, is_white, starts}
use Rattle.psu_lex.specs.NumberScan.{run, left}
use Rattle.psu_lex.specs.Syntax.{is_apart}
use Rattle.psu_lex.specs.SyntaxScan.{EndsDark, Reaches, is_header, is_part, is_path, joins}
use Rattle.psu_lex.proofs.HeaderScans.{letter_plain, name_plain, no_join}
use Rattle.psu_lex.proofs.Runs.{both}
use Rattle.psu_lex.proofs.Searches.{drop-add}

-- ---- the scan of a path continues

-- a byte that is not white space, after which a node has begun or not
abbrev Steps : Bool → Bool → Bool → ℕ → Type 0
Steps several begun next x = (is_dark x ≡ true) × ((rest : List ℕ) → is_path several begun (x ∷ rest) ≡ is_path several next rest)

part_steps : (several begun : Bool) (x : ℕ) → is_part begun x ≡ true → Steps several begun true x
part_steps several true x h =
    let plain = name_plain x h in
    (grind (arith, nat_tests, h), λ rest. rw (plain.0, no_join several x plain.1, h) refl)
part_steps several false x h = (grind (arith, nat_tests, h), λ rest. rw (letter_plain x h, h) refl)

join_steps : (several begun : Bool) (x : ℕ) → joins begun several x ≡ true → Steps several begun false x
join_steps true true x h =
    let other : (x == 63) ≡ false = grind (arith, nat_tests, h) in
    (grind (arith, nat_tests, h), λ rest. rw (other, h) refl)
join_steps false true x h = absurd (cc (h))
join_steps true false x h = absurd (cc (h))
join_steps false false x h = absurd (cc (h))

reaches_on : (several begun next : Bool) (text : List ℕ) (at : ℕ) → at < length text → Steps several begun next (slice_index text at) → Reaches several begun text at → Reaches several next text (at + 1)
reaches_on several begun next text at lt (dark, step) r =
    let x = slice_index text at in
    let later = drop (at + 1) text in
    let cut : drop at text ≡ x ∷ later = drop-cons text at 0 lt ∙ ap (λ (n : ℕ). x ∷ drop n text) (sym (add-one at)) in
    let longer : take (at + 1) text ≡ take at text ++ x ∷ [] = grind (arith, common_steps, lt) in
    let ran : run is_dark (drop at text) ≡ x ∷ run is_dark later = ap (run is_dark) cut ∙ rw dark refl in
    let over : left is_dark (drop at text) ≡ left is_dark later = ap (left is_dark) cut ∙ rw dark refl in
    record {
      front = ap (λ (z : List ℕ). z ++ run is_dark later) longer ∙ append_assoc (take at text) (x ∷ []) (run is_dark later) ∙ ap (λ (z : List ℕ). take at text ++ z) (sym ran) ∙ r.front;
      back = sym over ∙ r.back;
      path = sym (step (run is_dark later)) ∙ ap (is_path several begun) (sym ran) ∙ r.path;
    }

pub reaches_part : (several begun : Bool) (text : List ℕ) (at : ℕ) → at < length text → is_part begun (slice_index text at) ≡ true → Reaches several begun text at → Reaches several true text (at + 1)
reaches_part several begun text at lt h r = reaches_on several begun true text at lt (part_steps several begun (slice_index text at) h) r

pub reaches_joint : (several begun : Bool) (text : List ℕ) (at : ℕ) → at < length text → joins begun several (slice_index text at) ≡ true → Reaches several begun text at → Reaches several false text (at + 1)
reaches_joint several begun text at lt h r = reaches_on several begun false text at lt (join_steps several begun (slice_index text at) h) r

-- ---- where it stops

-- a header ends after k bytes, or the text is not a header
record EndsAfter (several begun : Bool) (rest : List ℕ) (k : ℕ) : Type 0 where
  test : is_path several begun (run is_dark rest) ≡ (begun && is_apart (drop k rest))
  front : is_apart (drop k rest) ≡ true → take k rest ≡ run is_dark rest
  back : is_apart (drop k rest) ≡ true → drop k rest ≡ left is_dark rest

ends_ask : (several begun : Bool) (xs : List ℕ) → EndsAfter several begun (63 ∷ xs) 1
ends_ask several begun [] = record { test = refl; front = λ h. refl; back = λ h. refl }
ends_ask several begun (y ∷ ys) = elim (cases_Bool (is_white y)) [
  | inl t ↦ record { test = rw t refl; front = λ h. rw t refl; back = λ h. rw t refl }
  | inr f ↦ record { test = rw f refl; front = λ h. absurd (both (is_white y) h f); back = λ h. absurd (both (is_white y) h f) }
]

with_true : (b : Bool) → b ≡ (b && true)
with_true true = refl
with_true false = refl

with_false : (b : Bool) → false ≡ (b && false)
with_false true = refl
with_false false = refl

ends_other : (several begun : Bool) (x : ℕ) (xs : List ℕ) → (x == 63) ≡ false → is_part begun x ≡ false → joins begun several x ≡ false → EndsAfter several begun (x ∷ xs) 0
ends_other several begun x xs a p j = elim (cases_Bool (is_white x)) [
  | inl t ↦ record { test = rw t (with_true begun); front = λ h. rw t refl; back = λ h. rw t refl }
  | inr f ↦ record { test = rw f (rw (a, j, p) (with_false begun)); front = λ h. absurd (both (is_white x) h f); back = λ h. absurd (both (is_white x) h f) }
]

pub record Ended (several begun : Bool) (text : List ℕ) (end : ℕ) : Type 0 where
  pub test : is_path several false (run is_dark text) ≡ (begun && is_apart (drop end text))
  pub front : is_apart (drop end text) ≡ true → take end text ≡ run is_dark text
  pub back : is_apart (drop end text) ≡ true → drop end text ≡ left is_dark text

ended_at : (several begun : Bool) (text : List ℕ) (at k : ℕ) → Reaches several begun text at → EndsAfter several begun (drop at text) k → Ended several begun text (at + k)
ended_at several begun text at k r s =
    let later : drop (at + k) text ≡ drop k (drop at text) = drop-add at k text in
    let open_at = λ (h : is_apart (drop (at + k) text) ≡ true). subst (λ (z : List ℕ). is_apart z ≡ true) later h in
    record {
      test = sym r.path ∙ s.test ∙ ap (λ (z : List ℕ). begun && is_apart z) (sym later);
      front = λ h. take-add at k text ∙ ap (λ (z : List ℕ). take at text ++ z) (s.front (open_at h)) ∙ r.front;
      back = λ h. later ∙ s.back (open_at h) ∙ r.back;
    }

pub ended : (several begun : Bool) (text : List ℕ) (at end : ℕ) → at < length text → end ≡ (if slice_index text at == 63 then at + 1 else at) → is_part begun (slice_index text at) ≡ false
    → joins begun several (slice_index text at) ≡ false → Reaches several begun text at → Ended several begun text end
ended several begun text at end lt e p j r =
    let x = slice_index text at in
    let later = drop (at + 1) text in
    let cut : drop at text ≡ x ∷ later = drop-cons text at 0 lt ∙ ap (λ (n : ℕ). x ∷ drop n text) (sym (add-one at)) in
    elim (cases_Bool (x == 63)) [
      | inl t ↦
          let asks : drop at text ≡ 63 ∷ later = cut ∙ ap (λ (z : ℕ). z ∷ later) (eqb-true x 63 t) in
          subst (Ended several begun text) (sym (e ∙ rw t refl)) (ended_at several begun text at 1 r (subst (λ (z : List ℕ). EndsAfter several begun z 1) (sym asks) (ends_ask several begun later)))
      | inr f ↦
          let here : at + 0 ≡ at = omega arith in
          subst (Ended several begun text) (here ∙ sym (e ∙ rw f refl)) (ended_at several begun text at 0 r (subst (λ (z : List ℕ). EndsAfter several begun z 0) (sym cut) (ends_other several begun x later f p j)))
    ]

pub ends_there : (several begun : Bool) (text : List ℕ) (end : ℕ) → Ended several begun text end → begun ≡ true → is_apart (drop end text) ≡ true → EndsDark (is_path several false) text end
ends_there several begun text end e b a = record { front = e.front a; back = e.back a; passes = e.test ∙ rw (b, a) refl }

pub ends_nowhere : (several begun : Bool) (text : List ℕ) (end : ℕ) → Ended several begun text end → (begun && is_apart (drop end text)) ≡ false → is_path several false (run is_dark text) ≡ false
ends_nowhere several begun text end e f = e.test ∙ f

-- the text ends with the path
pub ends_last : (several begun : Bool) (text : List ℕ) (at : ℕ) → length text ≤ at → Reaches several begun text at
    → (is_path several false (run is_dark text) ≡ begun) × (run is_dark text ≡ text) × (left is_dark text ≡ [])
ends_last several begun text at le r =
    let none : drop at text ≡ [] = drop_all at text le in
    let all : take at text ≡ text = grind (arith, common_steps, le) in (
      sym r.path ∙ ap (λ (z : List ℕ). is_path several begun (run is_dark z)) none,
      sym r.front ∙ ap (λ (z : List ℕ). take at text ++ run is_dark z) none ∙ append-nil (take at text) ∙ all,
      sym r.back ∙ ap (left is_dark) none,
    )

-- ---- the mark

first_is : (m : ℕ) (text rest : List ℕ) → starts m text ≡ true → rest ≡ drop 1 text → text ≡ m ∷ rest
first_is m [] rest h e = absurd (cc (h))
first_is m (x ∷ text) rest h e = cc (eqb-true x m h, e)

marked : (m n : ℕ) (several : Bool) (rest : List ℕ) → is_dark m ≡ true → ((xs : List ℕ) → is_header (m ∷ xs) ≡ is_path several false xs) → EndsDark (is_path several false) rest n → EndsDark is_header (m ∷ rest) (1 + n)
marked m n several rest d is e =
    let next : 1 + n ≡ suc n = omega arith in
    record {
      front = rw (next, d) (ap (λ (z : List ℕ). m ∷ z) e.front);
      back = rw (next, d) e.back;
      passes = rw d (is (run is_dark rest) ∙ e.passes);
    }

pub star_ends : (text rest : List ℕ) (n : ℕ) → starts 42 text ≡ true → rest ≡ drop 1 text → EndsDark (is_path false false) rest n → EndsDark is_header text (1 + n)
star_ends text rest n h e k = subst (λ (z : List ℕ). EndsDark is_header z (1 + n)) (sym (first_is 42 text rest h e)) (marked 42 n false rest refl (λ xs. refl) k)

pub colon_ends : (text rest : List ℕ) (n : ℕ) → starts 58 text ≡ true → rest ≡ drop 1 text → EndsDark (is_path true false) rest n → EndsDark is_header text (1 + n)
colon_ends text rest n h e k = subst (λ (z : List ℕ). EndsDark is_header z (1 + n)) (sym (first_is 58 text rest h e)) (marked 58 n true rest refl (λ xs. refl) k)

pub star_none : (text rest : List ℕ) → starts 42 text ≡ true → rest ≡ drop 1 text → is_path false false (run is_dark rest) ≡ false → is_header (run is_dark text) ≡ false
star_none text rest h e k = ap (λ (z : List ℕ). is_header (run is_dark z)) (first_is 42 text rest h e) ∙ k

pub colon_none : (text rest : List ℕ) → starts 58 text ≡ true → rest ≡ drop 1 text → is_path true false (run is_dark rest) ≡ false → is_header (run is_dark text) ≡ false
colon_none text rest h e k = ap (λ (z : List ℕ). is_header (run is_dark z)) (first_is 58 text rest h e) ∙ k

pub bare_is : (text : List ℕ) → starts 42 text ≡ false → starts 58 text ≡ false → is_header (run is_dark text) ≡ is_path true false (run is_dark text)
bare_is [] s c = refl
bare_is (x ∷ text) s c = elim (cases_Bool (is_dark x)) [
  | inl t ↦ rw t (rw (s, c) refl)
  | inr f ↦ rw f refl
]

pub bare_ends : (text : List ℕ) (n : ℕ) → starts 42 text ≡ false → starts 58 text ≡ false → EndsDark (is_path true false) text n → EndsDark is_header text n
bare_ends text n s c e = record { front = e.front; back = e.back; passes = bare_is text s c ∙ e.passes }
