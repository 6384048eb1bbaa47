-- The macros of an item, read one after another.
use Rattle.std.proofs.Common.{◌≡◌, ℕ, ◌<◌, ◌≤◌, Bool, true, false, cond, List, [], ◌∷◌, ◌++◌, length, take, drop, Some, refl, sym, ◌∙◌, ap, subst, arith, append_assoc, length-append}
use Rattle.std.specs.Prelude.{is_some}
use Rattle.std.specs.List.{flat_map, AllByRecursion}
use Rattle.std.specs.Int.{w16, to_be_bytes, from_be_bytes}
use Rattle.std.proofs.Math.Seq.{take-append_seam, drop-append_seam}
use Rattle.std.proofs.lemmas.Nat.{from_be_bytes-to_be_bytes_2}
use Rattle.std.proofs.lemmas.List.Concat.{flat_map-cons}
use Rattle.psu_nv.specs.Labels.{same_label}
use Rattle.psu_nv.specs.Contents.{Macro, IsMacro, HasDistinct, has_label, body_at, macro_bytes}
use Rattle.psu_nv.specs.Commands.{macro_of}
use Rattle.psu_nv.specs.Decoding.{AreMacros}
use Rattle.psu_nv.proofs.Keeping.{not_first, label_sym, all-push, distinct-push}

same_parts : (a b x y : List ℕ) → length a ≡ length b → a ++ x ≡ b ++ y → (a ≡ b) × (x ≡ y)
same_parts a b x y long same = (
  sym (take-append_seam a x) ∙ ap (λ (n : ℕ). take n (a ++ x)) long ∙ ap (take (length b)) same ∙ take-append_seam b y,
  sym (drop-append_seam a x) ∙ ap (λ (n : ℕ). drop n (a ++ x)) long ∙ ap (drop (length b)) same ∙ drop-append_seam b y,
)

pub macro-parts : (m : Macro) (rest : List ℕ) → macro_bytes m ++ rest ≡ length m.label ∷ (m.label ++ (to_be_bytes w16 (length m.body) ++ (m.body ++ rest)))
macro-parts m rest =
    ap (λ (l : List ℕ). length m.label ∷ l)
    (append_assoc m.label (to_be_bytes w16 (length m.body) ++ m.body) rest ∙ ap (λ (l : List ℕ). m.label ++ l) (append_assoc (to_be_bytes w16 (length m.body)) m.body rest))

-- bytes begin with at most one macro
pub same_macro : (a b : Macro) (x y : List ℕ) → length a.body < 65536 → length b.body < 65536 → macro_bytes a ++ x ≡ macro_bytes b ++ y → (a ≡ b) × (x ≡ y)
same_macro a b x y short_a short_b same =
    let bytes = sym (macro-parts a x) ∙ same ∙ macro-parts b y in
    let long : length a.label ≡ length b.label = cc in
    let after : a.label ++ (to_be_bytes w16 (length a.body) ++ (a.body ++ x)) ≡ b.label ++ (to_be_bytes w16 (length b.body) ++ (b.body ++ y)) = cc in
    let labels = same_parts a.label b.label _ _ long after in
    let sizes = same_parts (to_be_bytes w16 (length a.body)) (to_be_bytes w16 (length b.body)) (a.body ++ x) (b.body ++ y) refl labels.1 in
    let size : length a.body ≡ length b.body =
    sym (from_be_bytes-to_be_bytes_2 (length a.body) (omega (arith, short_a))) ∙ ap (from_be_bytes w16) sizes.0 ∙ from_be_bytes-to_be_bytes_2 (length b.body) (omega (arith, short_b)) in
    let bodies = same_parts a.body b.body x y size sizes.1 in
    (ap (λ (k : List ℕ). macro_of k a.body) labels.0 ∙ ap (λ (v : List ℕ). macro_of b.label v) bodies.0, bodies.1)

-- bytes encode at most one list of macros
pub same_macros : (a b : List Macro) → AllByRecursion IsMacro a → AllByRecursion IsMacro b → flat_map macro_bytes a ≡ flat_map macro_bytes b → a ≡ b
same_macros [] [] all_a all_b same = refl
same_macros [] (n ∷ b) all_a all_b same = let more : [] ≡ macro_bytes n ++ flat_map macro_bytes b = same ∙ flat_map-cons macro_bytes n b in absurd cc
same_macros (m ∷ a) [] all_a all_b same = let more : [] ≡ macro_bytes m ++ flat_map macro_bytes a = sym same ∙ flat_map-cons macro_bytes m a in absurd cc
same_macros (m ∷ a) (n ∷ b) all_a all_b same =
    let first = same_macro m n (flat_map macro_bytes a) (flat_map macro_bytes b) (omega (arith, all_a.0.body)) (omega (arith, all_b.0.body)) (sym (flat_map-cons macro_bytes m a) ∙ same ∙ flat_map-cons macro_bytes n b) in
    ap (λ (k : Macro). k ∷ a) first.0 ∙ ap (λ (l : List Macro). n ∷ l) (same_macros a b all_a.1 all_b.1 first.1)

-- # What was read so far

-- the macros are those found so far, and those that the rest encodes
pub record Continues (found : List Macro) (rest : List ℕ) (macros : List Macro) : Type 0 where
  pub more : List Macro
  pub whole : macros ≡ found ++ more
  pub rest_is : flat_map macro_bytes more ≡ rest

pub record ReadSo (bytes rest : List ℕ) (found : List Macro) : Type 0 where
  pub all : AllByRecursion IsMacro found
  pub distinct : HasDistinct found
  pub bytes_are : flat_map macro_bytes found ++ rest ≡ bytes
  pub only : (macros : List Macro) → AreMacros bytes macros → Continues found rest macros

pub none_read : (bytes : List ℕ) → ReadSo bytes bytes []
none_read bytes = record { all = tt; distinct = tt; bytes_are = refl; only = λ macros are. record { more = macros; whole = refl; rest_is = are.bytes_are } }

-- the next of the macros
record Next (found : List Macro) (rest : List ℕ) (macros : List Macro) : Type 0 where
  this : Macro
  more : List Macro
  whole : macros ≡ found ++ this ∷ more
  rest_is : rest ≡ macro_bytes this ++ flat_map macro_bytes more
  is : IsMacro this
  free : has_label found this.label ≡ false

other_label : (found : List Macro) (m : Macro) (more : List Macro) (label : List ℕ) → has_label (found ++ m ∷ more) label ≡ false → same_label m.label label ≡ false
other_label [] m more label none = (not_first m more label none).0
other_label (f ∷ found) m more label none = other_label found m more label (not_first f (found ++ m ∷ more) label none).1

free_prefix : (found : List Macro) (m : Macro) (more : List Macro) → HasDistinct (found ++ m ∷ more) → has_label found m.label ≡ false
free_prefix [] m more distinct = refl
free_prefix (f ∷ found) m more distinct =
    let other : same_label f.label m.label ≡ false = label_sym f.label m.label ∙ other_label found m more f.label distinct.0 in
    ap (λ (b : Bool). is_some (cond b (Some f.body) (body_at found m.label))) other ∙ free_prefix found m more distinct.1

here_is : (found : List Macro) (m : Macro) (more : List Macro) → AllByRecursion IsMacro (found ++ m ∷ more) → IsMacro m
here_is [] m more all = all.0
here_is (f ∷ found) m more all = here_is found m more all.1

module _ (bytes rest : List ℕ) (found : List Macro) (so : ReadSo bytes rest found) where
  next_of : (macros : List Macro) → AreMacros bytes macros → (rest ≡ [] → ⊥) → Next found rest macros
  next_of macros are some = by_more split.more split.whole split.rest_is
    where
      split : Continues found rest macros
      split = so.only macros are

      by_more : (more : List Macro) → macros ≡ found ++ more → flat_map macro_bytes more ≡ rest → Next found rest macros
      by_more [] whole rest_is = absurd (some (sym rest_is))
      by_more (m ∷ more) whole rest_is = record {
        this = m;
        more = more;
        whole = whole;
        rest_is = sym rest_is ∙ flat_map-cons macro_bytes m more;
        is = here_is found m more (subst (AllByRecursion IsMacro) whole are.all);
        free = free_prefix found m more (subst HasDistinct whole are.distinct);
      }

  pub no_macro : (rest ≡ [] → ⊥) → ((m : Macro) → (after : List ℕ) → length m.body < 65536 → rest ≡ macro_bytes m ++ after → ⊥) → (macros : List Macro) → AreMacros bytes macros → ⊥
  no_macro some none macros are =
      let next = next_of macros are some in
      none next.this (flat_map macro_bytes next.more) (omega (arith, next.is.body)) next.rest_is

  module _ (some : rest ≡ [] → ⊥) (w : Macro) (after : List ℕ) (short : length w.body < 65536) (read : rest ≡ macro_bytes w ++ after) where
    is_next : (macros : List Macro) → (are : AreMacros bytes macros) → (let next = next_of macros are some in (w ≡ next.this) × (after ≡ flat_map macro_bytes next.more))
    is_next macros are = let next = next_of macros are some in same_macro w next.this after (flat_map macro_bytes next.more) short (omega (arith, next.is.body)) (sym read ∙ next.rest_is)

    pub not_good : (IsMacro w → ⊥) → (macros : List Macro) → AreMacros bytes macros → ⊥
    not_good bad macros are = let next = next_of macros are some in bad (subst IsMacro (sym (is_next macros are).0) next.is)

    pub twice : has_label found w.label ≡ true → (macros : List Macro) → AreMacros bytes macros → ⊥
    twice has macros are =
        let next = next_of macros are some in
        let free : has_label found w.label ≡ false = ap (λ (m : Macro). has_label found m.label) (is_next macros are).0 ∙ next.free in
        absurd cc

    pub too_many : length found ≡ 32 → (macros : List Macro) → AreMacros bytes macros → ⊥
    too_many full macros are =
        let next = next_of macros are some in
        omega (arith, full, are.most, ap length next.whole, length-append found (next.this ∷ next.more))

    flat-push : (l : List Macro) (m : Macro) → flat_map macro_bytes (l ++ m ∷ []) ≡ flat_map macro_bytes l ++ macro_bytes m
    flat-push [] m = flat_map-cons macro_bytes m [] ∙ right_none (macro_bytes m)
      where
        right_none : (l : List ℕ) → l ++ [] ≡ l
        right_none [] = refl
        right_none (x ∷ l) = ap (λ (k : List ℕ). x ∷ k) (right_none l)
    flat-push (f ∷ l) m = flat_map-cons macro_bytes f (l ++ m ∷ []) ∙ ap (λ (k : List ℕ). macro_bytes f ++ k) (flat-push l m) ∙ sym (append_assoc (macro_bytes f) (flat_map macro_bytes l) (macro_bytes m)) ∙ ap (λ (k : List ℕ). k ++ macro_bytes m) (sym (flat_map-cons macro_bytes f l))

    pub continues : IsMacro w → has_label found w.label ≡ false → ReadSo bytes after (found ++ w ∷ [])
    continues good free = record {
      all = all-push IsMacro found w so.all good;
      distinct = distinct-push found w so.distinct free;
      bytes_are = ap (λ (l : List ℕ). l ++ after) (flat-push found w) ∙ append_assoc (flat_map macro_bytes found) (macro_bytes w) after ∙ ap (λ (l : List ℕ). flat_map macro_bytes found ++ l) (sym read) ∙ so.bytes_are;
      only = λ macros are.
          let next = next_of macros are some in
          let same = is_next macros are in
          record {
            more = next.more;
            whole = next.whole ∙ ap (λ (m : Macro). found ++ m ∷ next.more) (sym same.0) ∙ sym (append_assoc found (w ∷ []) next.more);
            rest_is = sym same.1;
          };
    }

    pub shorter : length after < length rest
    shorter = omega (arith, ap length (read ∙ macro-parts w after), length-append w.label (to_be_bytes w16 (length w.body) ++ (w.body ++ after)), length-append (to_be_bytes w16 (length w.body)) (w.body ++ after), length-append w.body after)

  pub all_read : rest ≡ [] → length found ≤ 32 → AreMacros bytes found
  all_read none most = record {
    all = so.all;
    distinct = so.distinct;
    most = most;
    bytes_are = sym (right_none (flat_map macro_bytes found)) ∙ ap (λ (l : List ℕ). flat_map macro_bytes found ++ l) (sym none) ∙ so.bytes_are;
  }
    where
      right_none : (l : List ℕ) → l ++ [] ≡ l
      right_none [] = refl
      right_none (x ∷ l) = ap (λ (k : List ℕ). x ∷ k) (right_none l)
