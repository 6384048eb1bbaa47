-- A root whose pages are written shows what was encoded.
use Rattle.std.proofs.Common.{◌≡◌, ◌⊎◌, inl, inr, ℕ, ◌+◌, ◌*◌, ◌-◌, ◌^◌, ◌<◌, ◌≤◌, List, [], ◌∷◌, ◌++◌, length, take, drop, map, replicate, refl, sym, ◌∙◌, ap, subst, append_assoc, arith, length-drop}
use Rattle.std.specs.List.{AllByRecursion}
use Rattle.std.specs.Int.{w16, w64, from_be_bytes}
use Rattle.std.proofs.Math.Seq.{take-append_seam, take-append-add}
use Rattle.std.proofs.lemmas.List.{take_all, length-take-le, take-append-drop, append-nil}
use Rattle.std.proofs.lemmas.Bool.{cases_lt}
use Rattle.std.proofs.lemmas.Nat.{from_be_bytes-to_be_bytes_2, from_be_bytes-to_be_bytes_8}
use Rattle.psu_disk.specs.Disk.{Range}
use Rattle.psu_pages.specs.declared.root.Root.{Root}
use Rattle.psu_pages.specs.Image.{gate_at, count_in, names_in, words, page_in, Head, head_on, head_at, heads_in, version_in, bytes_in, IsHead, AreShort, taken, keys, IsInPool, AreApart}
use Rattle.psu_pages.specs.Shown.{Item, item_of, item_in, HasContents}
use Rattle.psu_pages.specs.Writing.{Draft, IsWritten}
use Rattle.psu_pages.specs.Spelling.{spelled_words, filled, names, root_contents, spelled, value_drafts, head_drafts}
use Rattle.psu_pages.proofs.Places.{gate_low, range_inside}
use Rattle.psu_pages.proofs.Spelling.{words_again, length-spelled_words, head_again}

-- a value is decoded from its pages
pub value_again : (x pages value : List ℕ) → AllByRecursion (λ (draft : Draft). page_in draft.page x ≡ draft.bytes) (value_drafts pages value) → length value ≤ 512 * length pages → take (length value) (bytes_in x pages) ≡ value
value_again x [] [] written fits = refl
value_again x [] (b ∷ value) written fits = absurd (omega (arith, fits))
value_again x (page ∷ pages) value written fits = by_length (value_again x pages (drop 512 value) written.1) (cases_lt 512 (length value))
  where
    rest : List ℕ
    rest = bytes_in x pages

    by_length : (length (drop 512 value) ≤ 512 * length pages → take (length (drop 512 value)) (bytes_in x pages) ≡ drop 512 value) → (512 < length value) ⊎ (length value ≤ 512) → take (length value) (page_in page x ++ rest) ≡ value
    by_length again (inl long) =
        let whole : length (take 512 value) ≡ 512 = length-take-le 512 value (omega (arith, long)) in
        let page_is : page_in page x ≡ take 512 value = written.0 ∙ ap (λ (n : ℕ). take 512 value ++ replicate (512 - n) 0) whole ∙ append-nil (take 512 value) in
        let m : ℕ = length (drop 512 value) in
        let split : length value ≡ length (take 512 value) + m = omega (arith, whole, length-drop 512 value, long) in
        let later : take m rest ≡ drop 512 value = again (omega (arith, length-drop 512 value, fits)) in
        ap (λ (b : List ℕ). take (length value) (b ++ rest)) page_is
        ∙ ap (λ (n : ℕ). take n (take 512 value ++ rest)) split
        ∙ take-append-add (take 512 value) rest m
        ∙ ap (λ (b : List ℕ). take 512 value ++ b) later
        ∙ take-append-drop 512 value
    by_length again (inr short) =
        let all : take 512 value ≡ value = take_all 512 value short in
        let zeros : List ℕ = replicate (512 - length (take 512 value)) 0 in
        let page_is : page_in page x ≡ value ++ zeros = written.0 ∙ ap (λ (b : List ℕ). b ++ zeros) all in
        ap (λ (b : List ℕ). take (length value) (b ++ rest)) page_is
        ∙ ap (take (length value)) (append_assoc value zeros rest)
        ∙ take-append_seam value (zeros ++ rest)

-- a head and its item, once their pages are written
module _ (x : List ℕ) (head : Head) (value : List ℕ) (is : IsHead head) (fits : AllByRecursion (λ (n : ℕ). n < 2 ^ 16) head.pages) (size : head.size ≡ length value)
    (written : AllByRecursion (λ (draft : Draft). page_in draft.page x ≡ draft.bytes) (head_drafts head value)) where
  pub drafted_head : head_at x head.at ≡ head
  drafted_head = ap (head_on head.at) written.0 ∙ head_again head (replicate (512 - length (spelled head)) 0) is fits

  pub drafted_item : item_in x head ≡ item_of head.key value
  drafted_item = ap (item_of head.key) (ap (λ (n : ℕ). take n (bytes_in x head.pages)) size ∙ value_again x head.pages value written.1 (omega (arith, is.count, size)))

-- a head and its item as one fact
pub item_written : (x : List ℕ) (head : Head) (value : List ℕ) → IsHead head → AllByRecursion (λ (n : ℕ). n < 2 ^ 16) head.pages → head.size ≡ length value
    → AllByRecursion (λ (draft : Draft). page_in draft.page x ≡ draft.bytes) (head_drafts head value) → IsWritten x head value
item_written x head value is fits size written = record { head_is = drafted_head x head value is fits size written; item_is = drafted_item x head value is fits size written }

-- valid heads have keys that version 2 allows
all_short : (heads : List Head) → AllByRecursion IsHead heads → AreShort 2 heads
all_short [] are = tt
all_short (head ∷ heads) are = (let is = are.0 in is.key_most, all_short heads are.1)

-- a root whose contents name heads, which are on their pages
module _ (root : Root) (limit number : ℕ) (heads : List Head) (items : List Item) (x : List ℕ) (least : 4 ≤ limit) (most : limit ≤ 480) (fits : number < 2 ^ 64) (room : 512 * (2 + 2 * limit) ≤ length x)
    (count : length (names heads) ≤ 240) (low : AllByRecursion (λ (n : ℕ). n < 2 ^ 16) (names heads)) (are : AllByRecursion IsHead heads) (pool : AllByRecursion (IsInPool limit) (taken heads)) (apart : AreApart (taken heads)) (cost : length (taken heads) ≤ limit) (distinct : AreApart (keys heads))
    (has_contents : Range (gate_at root + 1) 511 x ≡ filled 511 (root_contents limit number (names heads))) (there : map (head_at x) (names heads) ≡ heads) (shown : map (item_in x) heads ≡ items) where
  abbrev pages : List ℕ
  pages = names heads

  part : (at from m : ℕ) → at ≡ gate_at root + 1 + from → from + m ≤ 511 → Range at m x ≡ Range from m (filled 511 (root_contents limit number pages))
  part at from m e le = ap (λ (i : ℕ). Range i m x) e ∙ range_inside (gate_at root + 1) 511 from m x (omega (arith, gate_low root, room)) le ∙ ap (Range from m) has_contents

  count_is : count_in root x ≡ length pages
  count_is = ap (from_be_bytes w16) (part (gate_at root + 16) 15 2 (omega arith) (omega arith)) ∙ from_be_bytes-to_be_bytes_2 (length pages) (omega (arith, count))

  abbrev zeros : List ℕ
  zeros = replicate (511 - length (root_contents limit number pages)) 0

  named : Range (gate_at root + 18) 480 x ≡ spelled_words pages ++ take (480 - 2 * length pages) zeros
  named =
      let long : 480 ≡ length (spelled_words pages) + (480 - 2 * length pages) = omega (arith, length-spelled_words pages, count) in
      part (gate_at root + 18) 17 480 (omega arith) (omega arith)
      ∙ ap (λ (n : ℕ). take n (spelled_words pages ++ zeros)) long
      ∙ take-append-add (spelled_words pages) zeros (480 - 2 * length pages)

  names_are : names_in root x ≡ pages
  names_are =
      ap (λ (n : ℕ). words n (Range (gate_at root + 18) 480 x)) count_is
      ∙ ap (words (length pages)) named
      ∙ words_again pages (take (480 - 2 * length pages) zeros) low

  heads_are : heads_in root x ≡ heads
  heads_are = ap (map (head_at x)) names_are ∙ there

  version_is : version_in root x ≡ 2
  version_is = ap (from_be_bytes w16) (part (gate_at root + 4) 3 2 (omega arith) (omega arith)) ∙ from_be_bytes-to_be_bytes_2 2 (omega arith)

  pub ready : HasContents root 2 limit number heads items x
  ready = record {
    version_is = version_is;
    number_is = ap (from_be_bytes w64) (part (gate_at root + 8) 7 8 (omega arith) (omega arith)) ∙ from_be_bytes-to_be_bytes_8 number fits;
    heads_are = heads_are;
    items_are = ap (map (item_in x)) heads_are ∙ shown;
    shows = record {
      marked = part (gate_at root + 1) 0 3 (omega arith) (omega arith);
      version = (omega (arith, version_is), omega (arith, version_is));
      limit_is = ap (from_be_bytes w16) (part (gate_at root + 6) 5 2 (omega arith) (omega arith)) ∙ from_be_bytes-to_be_bytes_2 limit (omega (arith, most));
      limit_least = least;
      limit_most = most;
      room = room;
      count = omega (arith, count_is, count);
      heads = subst (AllByRecursion IsHead) (sym heads_are) are;
      short = subst (λ (v : ℕ). AreShort v (heads_in root x)) (sym version_is) (subst (AreShort 2) (sym heads_are) (all_short heads are));
      pool = subst (λ (hs : List Head). AllByRecursion (IsInPool limit) (taken hs)) (sym heads_are) pool;
      apart = subst (λ (hs : List Head). AreApart (taken hs)) (sym heads_are) apart;
      cost = subst (λ (hs : List Head). length (taken hs) ≤ limit) (sym heads_are) cost;
      distinct = subst (λ (hs : List Head). AreApart (keys hs)) (sym heads_are) distinct;
    };
  }
