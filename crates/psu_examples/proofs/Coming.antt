-- The effect of a line on the examples that are still to be read.
use Rattle.std.proofs.Common.{◌≡◌, ℕ, ◌+◌, true, false, List, [], ◌∷◌, ◌++◌, refl, sym, ap, ◌∙◌, append_assoc}
use Rattle.std.proofs.lemmas.List.{append-nil}
use Rattle.psu_examples.specs.Examples.{Shown, Where, answered_by, answered_in, examples, is_end, sent_by, sent_in}
use Rattle.psu_examples.specs.Shown.{begun, coming, shown}
use Rattle.psu_examples.specs.declared.example.Example.{Example}
use Rattle.psu_examples.specs.declared.place.Place.{Place}
use Rattle.psu_examples.specs.declared.place.Place.TheVariants.{Text, Block, Inside}

abbrev made : ℕ → List ℕ → List ℕ → Shown
made line sent answered = record { line = line; sent = sent; answered = answered }

-- a line that continues an example
pub continues : {A : Type 0} (old new : Example A) (number : ℕ) (line : List ℕ) (lines : List (List ℕ)) → is_end line ≡ false
    → new.line ≡ old.line → new.sent.items ≡ old.sent.items ++ sent_by line → new.answered.items ≡ old.answered.items ++ answered_by line
    → coming (Inside new) (number + 1) lines ≡ coming (Inside old) number (line ∷ lines)
continues old new number line lines more at sent answered =
    let rest = examples Where.Inside (number + 1) lines in
    let s = ap (λ (x : List ℕ). x ++ sent_in lines) sent ∙ append_assoc old.sent.items (sent_by line) (sent_in lines) in
    let a = ap (λ (x : List ℕ). x ++ answered_in lines) answered ∙ append_assoc old.answered.items (answered_by line) (answered_in lines) in
    rw more (ap (λ (n : ℕ). made n (new.sent.items ++ sent_in lines) (new.answered.items ++ answered_in lines) ∷ rest) at
    ∙ ap (λ (x : List ℕ). made old.line x (new.answered.items ++ answered_in lines) ∷ rest) s
    ∙ ap (λ (x : List ℕ). made old.line (old.sent.items ++ (sent_by line ++ sent_in lines)) x ∷ rest) a)

-- an example that has no further line
pub done : {A : Type 0} (e : Example A) → made e.line (e.sent.items ++ []) (e.answered.items ++ []) ≡ shown e
done e =
    ap (λ (x : List ℕ). made e.line x (e.answered.items ++ [])) (append-nil e.sent.items)
    ∙ ap (λ (x : List ℕ). made e.line e.sent.items x) (append-nil e.answered.items)

-- a line that ends a block
ends : {A : Type 0} (place : Place A) (number : ℕ) (line : List ℕ) (lines : List (List ℕ)) → is_end line ≡ true → ¬ (place ≡ Text)
    → begun place ++ examples Where.Text (number + 1) lines ≡ coming place number (line ∷ lines)
ends Text number line lines over block = absurd (block refl)
ends Block number line lines over block = rw over refl
ends (Inside e) number line lines over block = rw over (ap (λ (x : Shown). x ∷ examples Where.Text (number + 1) lines) (sym (done e)))

pub closes : {A : Type 0} (old new : Place A) (before after : List Shown) (number : ℕ) (line : List ℕ) (lines : List (List ℕ)) → is_end line ≡ true → ¬ (old ≡ Text)
    → after ≡ before ++ begun old → new ≡ Text → after ++ coming new (number + 1) lines ≡ before ++ coming old number (line ∷ lines)
closes old new before after number line lines over block grown text =
    ap (λ (x : List Shown). x ++ coming new (number + 1) lines) grown
    ∙ ap (λ (p : Place _). (before ++ begun old) ++ coming p (number + 1) lines) text
    ∙ append_assoc before (begun old) (examples Where.Text (number + 1) lines)
    ∙ ap (λ (x : List Shown). before ++ x) (ends old number line lines over block)

-- the end of the guide
pub last : {A : Type 0} (place : Place A) (number : ℕ) → begun place ≡ coming place number []
last Text number = refl
last Block number = refl
last (Inside e) number = ap (λ (x : Shown). x ∷ []) (sym (done e))
