-- Places in a text, and the units there.
use Rattle.std.proofs.Common.{◌≡◌, ℕ, Bool, true, false, if◌then◌else◌, ◌+◌, ◌<◌, ◌≤◌, List, [], ◌∷◌, ◌++◌, length, take, drop, length-append, append_assoc, refl, sym, ap, ◌∙◌, subst, arith, inl, inr}
use Rattle.std.proofs.lemmas.List.{append-nil}
use Rattle.std.proofs.Math.Seq.{drop-append_seam, take-append_seam}
use Rattle.psu_lex.specs.Bytes.{is_closed}
use Rattle.psu_lex.specs.Message.{EndsIn, IsMessage, MakesUnits, Part, units_of}
use Rattle.psu_lex.proofs.Tokens.{some_tokens}
use Rattle.psu_lex.proofs.UnitScans.{ends_through, makes_none}
use Rattle.psu_tree.specs.Reading.{CallsMacro, Moves, Reads}
use Rattle.psu_tree.specs.declared.command.Request.{Request}
use Rattle.psu_messages.specs.Places.{IsAt}
use Rattle.psu_messages.specs.Units.{IsBehind, IsRequest, IsUnit, LeadsToPath, path_at}
use Rattle.psu_messages.specs.Units.LeadsToPath.{Behind, Root}

pub first_path : (path from : List (List ℕ)) (p : Part) → p.first ≡ true → from ≡ [] → from ≡ path_at path p
first_path path from p first e = e ∙ ap (λ (b : Bool). (let l : List (List ℕ) = if b then [] else path in l)) (sym first)

pub next_path : (path from : List (List ℕ)) (p : Part) → p.first ≡ false → from ≡ path → from ≡ path_at path p
next_path path from p later e = e ∙ ap (λ (b : Bool). (let l : List (List ℕ) = if b then [] else path in l)) (sym later)

pub read_at : (inside : Bool) (path from next : List (List ℕ)) (p : Part) (request : Request) → from ≡ path_at path p → Reads from p request.reading → Moves from p request.reading next → CallsMacro p request.call
    → request.inside ≡ inside → IsRequest inside (path_at path p) p request next
read_at inside path from next p request e reads moves calls place =
    subst (λ (z : List (List ℕ)). IsRequest inside z p request next) e (record { reading = reads; moves = moves; call = calls; place = place })

-- ---- places

pub at_start : (inside : Bool) (bytes rest : List ℕ) (first : Bool) (path : List (List ℕ)) → rest ≡ bytes → first ≡ true → path ≡ [] → IsAt inside bytes 0 rest first path
at_start inside bytes rest first path e f p =
    let start : IsAt inside bytes 0 bytes true [] = record { before = []; count = inl refl; units = λ more m. m; leads = Root; ends = ([], refl); few = omega arith } in
    subst (λ (z : List ℕ). IsAt inside bytes 0 z first path) (sym e)
    (subst (λ (z : Bool). IsAt inside bytes 0 bytes z path) (sym f) (subst (λ (z : List (List ℕ)). IsAt inside bytes 0 bytes true z) (sym p) start))

-- no unit is left where no byte is left
pub none_left : (first : Bool) (text : List ℕ) → length text ≡ 0 → MakesUnits first [] text []
none_left first [] n = ([], refl, refl)
none_left first (x ∷ xs) n = absurd (omega (arith, n))

-- a place at which the bytes, the flag and the path are others that are the same
pub at_same : (inside : Bool) (bytes : List ℕ) (done now : ℕ) (rest is : List ℕ) (first flag : Bool) (path others : List (List ℕ)) → now ≡ done → is ≡ rest → flag ≡ first → others ≡ path
    → IsAt inside bytes done rest first path → IsAt inside bytes now is flag others
at_same inside bytes done now rest is first flag path others d e f p at =
    subst (λ (n : ℕ). IsAt inside bytes n is flag others) (sym d)
    (subst (λ (z : List ℕ). IsAt inside bytes done z flag others) (sym e)
    (subst (λ (z : Bool). IsAt inside bytes done rest z others) (sym f) (subst (λ (z : List (List ℕ)). IsAt inside bytes done rest first z) (sym p) at)))

module _ {inside : Bool} {bytes : List ℕ} {done : ℕ} {rest : List ℕ} {first : Bool} {path : List (List ℕ)} (at : IsAt inside bytes done rest first path) where
  -- where bytes are after it, as many units are before it as were read
  pub counted : 0 < length rest → length at.before ≡ done
  counted some = elim at.count [ inl e ↦ e | inr n ↦ absurd (omega (arith, some, ap length n.0)) ]

  pub most : length at.before ≤ done
  most = elim at.count [ inl e ↦ omega (arith, e) | inr n ↦ n.1 ]

  -- no unit is left
  pub behind_at : MakesUnits first [] rest [] → IsBehind bytes done
  behind_at none = (at.before ++ [], at.units [] none, omega (arith, ap length (append-nil at.before), most))

  pub at_end : (count : ℕ) → MakesUnits first [] rest [] → done ≤ count → IsAt inside bytes count [] true path
  at_end count none later = record {
    before = at.before;
    count = inr (refl, omega (arith, most, later));
    units = λ more m. subst (λ (z : List Part). IsMessage bytes (at.before ++ z)) (sym (makes_none true more m)) (at.units [] none);
    leads = at.leads;
    ends = (bytes, sym (append-nil bytes));
    few = omega (arith, at.few);
  }

  -- one more unit is read
  module _ (later : List ℕ) (flag : Bool) (part : Part) (makes : (more : List Part) → MakesUnits flag [] later more → MakesUnits first [] rest (part ∷ more)) (ends : EndsIn rest later) (less : length later < length rest)
      (request : Request) (next : List (List ℕ)) (reads : IsRequest inside (path_at path part) part request next) where
    pub at_next : IsAt inside bytes (done + 1) later flag next
    at_next = record {
      before = at.before ++ part ∷ [];
      count = inl (length-append at.before (part ∷ []) ∙ ap (λ (n : ℕ). n + 1) (counted (omega (arith, less))));
      units = λ more m. subst (IsMessage bytes) (sym (append_assoc at.before (part ∷ []) more)) (at.units (part ∷ more) (makes more m));
      leads = Behind at.leads part request next reads;
      ends = ends_through bytes rest later at.ends ends;
      few = omega (arith, at.few, less, length-append at.before (part ∷ []));
    }

    -- the unit that was read
    pub unit_at : IsUnit inside bytes done part request
    unit_at =
        let tokens = some_tokens is_closed later in
        let more : List Part = units_of flag [] tokens.0 in
        let there : done ≡ length at.before = sym (counted (omega (arith, less))) in
        record {
          units = at.before ++ part ∷ more;
          after = more;
          path = path;
          next = next;
          are = at.units (part ∷ more) (makes more (tokens.0, tokens.1, refl));
          here = ap (λ (n : ℕ). drop n (at.before ++ part ∷ more)) there ∙ drop-append_seam at.before (part ∷ more);
          leads = subst (λ (z : List Part). LeadsToPath inside z path) (sym (ap (λ (n : ℕ). take n (at.before ++ part ∷ more)) there ∙ take-append_seam at.before (part ∷ more))) at.leads;
          reads = reads;
        }
