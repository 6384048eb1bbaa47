-- The response buffer of a message: responses are appended one after another, and sent in parts.
use Rattle.std.specs.Prelude.{◌≡◌, ℕ, Bool, true, false, List, [], ◌∷◌, ◌++◌}
use Rattle.psu_messages.specs.Response.{end_of, joined, response}

-- whether a unit of the message has responded, and the text that is not sent
pub record Text : Type 0 where
  pub answered : Bool
  pub rest : List ℕ

-- what a response adds after others, or as the first of its message
abbrev pub addition : Bool → List ℕ → List ℕ
addition true answer = 59 ∷ answer
addition false answer = answer

abbrev pub appended : Text → List ℕ → Text
appended text answer = record { answered = true; rest = text.rest ++ addition text.answered answer }

abbrev pub nothing : Text
nothing = record { answered = false; rest = [] }

-- all of the text was sent, and its message continues
abbrev pub emptied : Text → Text
emptied text = record { answered = text.answered; rest = [] }

-- the message ends: NL is appended to its text
abbrev pub ended : Text → Text
ended text = record { answered = text.answered; rest = text.rest ++ 10 ∷ [] }

-- The states of the response buffer, where responses are appended and parts are sent between them: the responses so
-- far, the text that was sent, and the buffer after that.
pub data MakesBuffer : List (List ℕ) → List ℕ → Text → Type 0 where
  Begin : MakesBuffer [] [] nothing
  Append : {answers : List (List ℕ)} {sent : List ℕ} {text : Text} → MakesBuffer answers sent text → (answer : List ℕ) → MakesBuffer (answers ++ answer ∷ []) sent (appended text answer)
  Send : {answers : List (List ℕ)} {sent : List ℕ} {text : Text} → MakesBuffer answers sent text → MakesBuffer answers (sent ++ text.rest) (emptied text)

-- However parts are sent, what was sent and what is left are the responses, joined.
abbrev pub PartsAreTheAnswers : Type 0
PartsAreTheAnswers = (answers : List (List ℕ)) (sent : List ℕ) (text : Text) → MakesBuffer answers sent text → sent ++ text.rest ≡ joined answers

-- With the end of the message, they are its response message.
abbrev pub PartsAreTheResponse : Type 0
PartsAreTheResponse = (answers : List (List ℕ)) (sent : List ℕ) (text : Text) → MakesBuffer answers sent text → sent ++ (text.rest ++ end_of text.answered) ≡ response answers
