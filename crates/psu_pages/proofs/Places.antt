-- Where roots are, and ranges of a page.
use Rattle.std.proofs.Common.{◌≡◌, ◌⊎◌, inl, inr, ℕ, suc, ◌+◌, ◌<◌, ◌≤◌, List, ◌∷◌, length, get_or, take, refl, sym, ◌∙◌, ap, arith, drop-cons}
use Rattle.std.proofs.lemmas.List.{same_lists, get_or_default}
use Rattle.psu_disk.specs.Disk.{Range, SameBut}
use Rattle.psu_disk.specs.Ranges.{length-range, range_index, range_kept}
use Rattle.psu_pages.specs.declared.root.Root.{Root}
use Rattle.psu_pages.specs.declared.root.Root.TheVariants.{First, Second}
use Rattle.psu_pages.specs.Finding.{page_of}
use Rattle.psu_pages.specs.Image.{other, gate, gate_at}

pub gate_low : (root : Root) → gate_at root + 512 ≤ 1024
gate_low First = omega arith
gate_low Second = omega arith

pub other_other : (root : Root) → other (other root) ≡ root
other_other First = refl
other_other Second = refl

pub gates_apart : (root : Root) → (gate_at root + 512 ≤ gate_at (other root)) ⊎ (gate_at (other root) + 512 ≤ gate_at root)
gates_apart First = inl (omega arith)
gates_apart Second = inr (omega arith)

-- the page of a root that has this after its gate, once the gate is written
pub page_gated : (root : Root) (byte : ℕ) (contents x y : List ℕ) → 1024 ≤ length x → Range (gate_at root + 1) 511 x ≡ contents → SameBut (gate_at root) 1 x y → gate root y ≡ byte → page_of root y ≡ byte ∷ contents
page_gated root byte contents x y long has_contents but is =
    let at = gate_at root in
    let next : suc at ≡ at + 1 = omega arith in
    ap (take 512) (drop-cons y at 0 (omega (arith, but.size, long, gate_low root)))
    ∙ ap (λ (n : ℕ). get_or y at 0 ∷ Range n 511 y) next
    ∙ ap (λ (b : ℕ). b ∷ Range (at + 1) 511 y) is
    ∙ ap (λ (l : List ℕ). byte ∷ l) (range_kept at 1 (at + 1) 511 x y but (omega (arith, long, gate_low root)) (inr (omega arith)) ∙ has_contents)

-- a range inside of another
pub range_inside : (at n from m : ℕ) (x : List ℕ) → at + n ≤ length x → from + m ≤ n → Range (at + from) m x ≡ Range from m (Range at n x)
range_inside at n from m x fits inside =
    let whole : length (Range at n x) ≡ n = length-range at n x fits in
    let left : length (Range (at + from) m x) ≡ m = length-range (at + from) m x (omega arith) in
    let right : length (Range from m (Range at n x)) ≡ m = length-range from m (Range at n x) (omega (arith, whole)) in
    same_lists (Range (at + from) m x) (Range from m (Range at n x)) (left ∙ sym right) (λ k d lt.
    let below : k < m = omega (arith, left) in
    get_or_default (Range (at + from) m x) k d 0 lt
    ∙ range_index (at + from) m x k below
    ∙ ap (λ (i : ℕ). get_or x i 0) (let same : at + from + k ≡ at + (from + k) = omega arith in same)
    ∙ sym (range_index at n x (from + k) (omega arith))
    ∙ sym (range_index from m (Range at n x) k below)
    ∙ get_or_default (Range from m (Range at n x)) k 0 d (omega (arith, right)))
