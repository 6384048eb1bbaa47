-- The responses of a message's units, appended and sent in parts.
use Rattle.std.proofs.Common.{◌≡◌, ℕ, Bool, true, List, [], ◌∷◌, ◌++◌, refl, sym, ap, ◌∙◌}
use Rattle.std.proofs.lemmas.List.{append_assoc}
use Rattle.psu_messages.specs.ResponseBuffer.{MakesBuffer, Text, addition}
use Rattle.psu_messages.specs.ResponseBuffer.MakesBuffer.{Begin, Append, Send}
use Rattle.psu_messages.specs.Response.{are_some, end_of, joined, response}

pub some_more : (xs : List (List ℕ)) (x : List ℕ) → true ≡ are_some (xs ++ x ∷ [])
some_more [] x = refl
some_more (y ∷ ys) x = refl

pub joined_more : (xs : List (List ℕ)) (x : List ℕ) → joined xs ++ addition (are_some xs) x ≡ joined (xs ++ x ∷ [])
joined_more [] x = refl
joined_more (y ∷ []) x = refl
joined_more (y ∷ z ∷ zs) x = append_assoc y (59 ∷ joined (z ∷ zs)) (59 ∷ x) ∙ ap (λ (l : List ℕ). y ++ 59 ∷ l) (joined_more (z ∷ zs) x)

nothing_more : (xs : List ℕ) → xs ++ [] ≡ xs
nothing_more [] = refl
nothing_more (x ∷ xs) = ap (λ (l : List ℕ). x ∷ l) (nothing_more xs)

pub makes : (answers : List (List ℕ)) (sent : List ℕ) (text : Text) → MakesBuffer answers sent text → (sent ++ text.rest ≡ joined answers) × (text.answered ≡ are_some answers)
makes answers sent text Begin = (refl, refl)
makes answers sent text (Append {answers = before} {sent = gone} {text = old} m answer) =
    let ih = makes before gone old m in (
      sym (append_assoc gone old.rest (addition old.answered answer)) ∙ ap (λ (l : List ℕ). l ++ addition old.answered answer) ih.0
          ∙ ap (λ (b : Bool). joined before ++ addition b answer) ih.1 ∙ joined_more before answer,
      some_more before answer,
    )
makes answers sent text (Send {answers = all} {sent = before} {text = old} m) =
    let ih = makes all before old m in
    (nothing_more (before ++ old.rest) ∙ ih.0, ih.1)

pub responds : (answers : List (List ℕ)) (sent : List ℕ) (text : Text) → MakesBuffer answers sent text → sent ++ (text.rest ++ end_of text.answered) ≡ response answers
responds answers sent text m =
    let whole = makes answers sent text m in
    sym (append_assoc sent text.rest (end_of text.answered)) ∙ ap (λ (l : List ℕ). l ++ end_of text.answered) whole.0 ∙ ap (λ (b : Bool). joined answers ++ end_of b) whole.1
