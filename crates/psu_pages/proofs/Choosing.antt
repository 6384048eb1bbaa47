-- Which root is the current one, its contents, and why an image is refused.
use Rattle.std.proofs.Common.{◌≡◌, inl, inr, ℕ, ◌+◌, ◌<◌, ◌≤◌, Bool, true, false, List, length, get_or, Option, Some, None, refl, sym, ◌∙◌, ap, subst, arith}
use Rattle.std.specs.Prelude.{◌==◌, if◌then◌else◌, IfSome, is_some, slice_index}
use Rattle.std.specs.Int.{w16, w64, from_be_bytes}
use Rattle.std.proofs.lemmas.Bool.{cases_eq}
use Rattle.std.proofs.lemmas.Bool.Decides.{nat_tests}
use Rattle.psu_disk.specs.Disk.{Range}
use Rattle.psu_disk.specs.Ranges.{range_index}
use Rattle.psu_pages.specs.declared.root.Root.{Root}
use Rattle.psu_pages.specs.declared.root.Root.TheVariants.{First, Second}
use Rattle.psu_pages.specs.declared.words.Words.{Words}
use Rattle.psu_pages.specs.declared.faults.BadImage.{BadImage}
use Rattle.psu_pages.specs.declared.faults.BadImage.TheVariants.{NoRoot, BadRoot, BadVersion}
use Rattle.psu_pages.specs.Image.{other, gate_at, gate, mark, mark_in, version_in, IsKnown, limit_in, number_in, count_in, IsCurrent, current_root}
use Rattle.psu_pages.specs.Shown.{Shows}
use Rattle.psu_pages.specs.Finding.{open_number, of_root, IsPickedIn, IsNonePicked, HasGoodWords, IsSound, IsUnsound, page_of, HasNoRoot, IsRefusal}
use Rattle.psu_pages.proofs.Places.{gate_low, range_inside}
use Rattle.psu_pages.proofs.Encoding.{current_root_is}

of_open : (root : Root) (x : List ℕ) → of_root root (open_number First x) (open_number Second x) ≡ open_number root x
of_open First x = refl
of_open Second x = refl

is_open_number : (root : Root) (x : List ℕ) → gate root x ≡ 165 → open_number root x ≡ Some (number_in root x)
is_open_number root x is_open = grind (arith, nat_tests)

number_open : (root : Root) (x : List ℕ) (n : ℕ) → open_number root x ≡ Some n → (gate root x ≡ 165) × (number_in root x ≡ n)
number_open root x n is = elim (cases_eq (gate root x) 165) [
  | inl is_open ↦ let same = is_open_number root x is_open in (is_open, cc)
  | inr shut ↦ let none : open_number root x ≡ None = grind (arith, nat_tests) in absurd (cc)
]

number_shut : (root : Root) (x : List ℕ) → open_number root x ≡ None → gate root x ≡ 165 → ⊥
number_shut root x none is_open = let there = is_open_number root x is_open in cc

module _ (root : Root) (n : ℕ) (both : Bool) (x : List ℕ) (picked : IsPickedIn x root n both) where
  own : (gate root x ≡ 165) × (number_in root x ≡ n)
  own = number_open root x n (sym (of_open root x) ∙ picked.own)

  pub picked_number : number_in root x ≡ n
  picked_number = own.1

  pub picked_current : IsCurrent root x
  picked_current = record {
    open_gate = own.0;
    highest = λ is_open.
        let m : number_in (other root) x < n = subst (λ (o : Option ℕ). IfSome o (λ m. m < n)) (of_open (other root) x ∙ is_open_number (other root) x is_open) picked.lower in
        omega (arith, own.1);
  }

  pub picked_shut : both ≡ false → gate (other root) x ≡ 165 → ⊥
  picked_shut one is_open =
      let there : both ≡ true = picked.both_open ∙ ap is_some (of_open (other root) x ∙ is_open_number (other root) x is_open) in
      cc

  pub picked_lower : both ≡ true → number_in (other root) x < n
  picked_lower two = elim (cases_eq (gate (other root) x) 165) [
    | inl is_open ↦ omega (arith, picked_current.highest is_open, own.1)
    | inr shut ↦
        let none : open_number (other root) x ≡ None = grind (arith, nat_tests) in
        let there : both ≡ false = picked.both_open ∙ ap is_some (of_open (other root) x ∙ none) in
        absurd (cc)
  ]

-- no root is the current one where two open ones have the same number
none_current : (x : List ℕ) (n : ℕ) → open_number First x ≡ Some n → open_number Second x ≡ Some n → (root : Root) → IsCurrent root x → ⊥
none_current x n first second root current = by_root root current
  where
    one : (gate First x ≡ 165) × (number_in First x ≡ n)
    one = number_open First x n first

    two : (gate Second x ≡ 165) × (number_in Second x ≡ n)
    two = number_open Second x n second

    by_root : (r : Root) → IsCurrent r x → ⊥
    by_root First current = omega (arith, one.1, two.1, current.highest two.0)
    by_root Second current = omega (arith, one.1, two.1, current.highest one.0)

-- there are two roots, and a gate is open
pub some_root : (x : List ℕ) (root : Root) → 1024 ≤ length x → gate root x ≡ 165 → HasNoRoot x → ⊥
some_root x root size is_open (inl short) = omega (arith, size, short)
some_root x First size is_open (inr shut) = shut.0 is_open
some_root x Second size is_open (inr shut) = shut.1 is_open

-- refused because there is no current root
pub unpicked : (x : List ℕ) (bad : BadImage) → 1024 ≤ length x → IsNonePicked (open_number First x) (open_number Second x) bad → IsRefusal x bad
unpicked x NoRoot size none = inr (number_shut First x none.0, number_shut Second x none.1)
unpicked x BadRoot size none = record {
  some_root = some_root x First size (number_open First x none.0 none.1).0;
  same_version = λ has. none_current x none.0 none.1 none.2 (current_root x) has.current;
  represents_none = λ limit items st. none_current x none.0 none.1 none.2 (current_root x) st.current;
}
unpicked x BadVersion size none = absurd none

-- the contents of a root's page
module _ (root : Root) (x page : List ℕ) (size : 1024 ≤ length x) (is : page ≡ page_of root x) where
  pub on_page : (from m : ℕ) → from + m ≤ 512 → Range from m page ≡ Range (gate_at root + from) m x
  on_page from m fits = ap (Range from m) is ∙ sym (range_inside (gate_at root) 512 from m x (omega (arith, gate_low root, size)) fits)

  gate_on : get_or page 0 0 ≡ gate root x
  gate_on = ap (λ (p : List ℕ). get_or p 0 0) is ∙ range_index (gate_at root) 512 x 0 (omega arith) ∙ ap (λ (k : ℕ). get_or x k 0) (let same : gate_at root + 0 ≡ gate_at root = omega arith in same)

  pub number_on : (if slice_index page 0 == 165 then Some (from_be_bytes w64 (Range 8 8 page)) else None) ≡ open_number root x
  number_on =
      ap (λ (b : ℕ). if b == 165 then Some (from_be_bytes w64 (Range 8 8 page)) else None) gate_on
      ∙ ap (λ (bytes : List ℕ). if gate root x == 165 then Some (from_be_bytes w64 bytes) else None) (on_page 8 8 (omega arith))

  module _ (words : Words) (marked : words.mark ≡ Range 1 3 page) (version : words.version ≡ from_be_bytes w16 (Range 4 2 page)) (limit : words.limit ≡ from_be_bytes w16 (Range 6 2 page)) (count : words.count ≡ from_be_bytes w16 (Range 16 2 page)) where
    mark_is : words.mark ≡ mark_in root x
    mark_is = marked ∙ on_page 1 3 (omega arith)

    pub version_is : words.version ≡ version_in root x
    version_is = version ∙ ap (from_be_bytes w16) (on_page 4 2 (omega arith))

    pub limit_is : words.limit ≡ limit_in root x
    limit_is = limit ∙ ap (from_be_bytes w16) (on_page 6 2 (omega arith))

    pub count_is : words.count ≡ count_in root x
    count_is = count ∙ ap (from_be_bytes w16) (on_page 16 2 (omega arith))

    pub good_words : IsSound words (length x) → HasGoodWords root x
    good_words sound = record {
      marked = sym mark_is ∙ sound.marked;
      version = subst IsKnown version_is sound.version;
      limit_least = omega (arith, sound.limit_least, limit_is);
      limit_most = omega (arith, sound.limit_most, limit_is);
      room = omega (arith, sound.room, limit_is);
      count = omega (arith, sound.count, count_is);
    }

    -- refused because its fields are invalid
    pub unsound : (bad : BadImage) → IsCurrent root x → IsUnsound words (length x) bad → IsRefusal x bad
    unsound NoRoot current none = absurd none
    unsound BadRoot current none = record {
      some_root = some_root x root size current.open_gate;
      same_version = λ has.
          let is = current_root_is root x current in
          has.version (subst (λ (r : Root). IsKnown (version_in r x)) (sym is) (subst IsKnown version_is (none.0 (mark_is ∙ subst (λ (r : Root). mark_in r x ≡ mark) is has.marked))));
      represents_none = λ l items st.
          let same = current_root_is root x current in
          let shows = subst (λ (r : Root). Shows r x l) same st.shows in
          none.1 (record {
            marked = mark_is ∙ shows.marked;
            version = subst IsKnown (sym version_is) shows.version;
            limit_least = omega (arith, shows.limit_least, shows.limit_is, limit_is);
            limit_most = omega (arith, shows.limit_most, shows.limit_is, limit_is);
            room = omega (arith, shows.room, shows.limit_is, limit_is);
            count = omega (arith, shows.count, count_is);
          });
    }
    unsound BadVersion current none =
        let is = sym (current_root_is root x current) in
        record {
          size = size;
          current = subst (λ (r : Root). IsCurrent r x) is current;
          marked = subst (λ (r : Root). mark_in r x ≡ mark) is (sym mark_is ∙ none.0);
          version = subst (λ (r : Root). IsKnown (version_in r x) → ⊥) is (λ known. none.1 (subst IsKnown (sym version_is) known));
        }
