-- The frames of pieces of text.
use Rattle.std.proofs.Common.{◌≡◌, ℕ, ◌<◌, ◌≤◌, true, false, List, [], ◌∷◌, ◌++◌, length, refl, sym, ap, ◌∙◌, subst, arith}
use Rattle.std.proofs.lemmas.List.{append-nil}
use Rattle.std.proofs.lemmas.List.Concat.{flat_map-append}
use Rattle.std.proofs.lemmas.List.Elements.{All-append, All-cons, All-nil}
use Rattle.psu_hislip.specs.Answer.{AreParts, IsAnswer, IsAnswerCutAnywhere, IsPart, Part, all_frames, bytes_of, data_of, joined}
use Rattle.psu_hislip.specs.Frame.{frame_bytes}
use Rattle.psu_hislip.specs.declared.message_type.MessageType.TheVariants.{Data}
use Rattle.psu_messages.specs.Answers.{ends_text, text_sent}
use Rattle.psu_messages.specs.Effects.{Effect, Executed, Settled, Sent}
use Rattle.psu_session.specs.Orders.{Done, IsFramed, effects, frames}
use Rattle.psu_session_laws.proofs.Mapped.{single, split}

-- parts and then an end are an answer, as a law of frames says
abbrev pub PartsAreAnAnswer : Type 0
PartsAreAnAnswer = (greatest size id : ℕ) (parts : List Part) (rest end : List ℕ) → AreParts greatest id parts → 0 < size → size ≤ greatest → IsAnswer size id rest end
    → IsAnswerCutAnywhere greatest id (bytes_of parts ++ rest) (all_frames parts ++ end)

-- an effect's frames have payloads of at most some size
pub record Fits (greatest id : ℕ) (effect : Effect) (out : List ℕ) : Type 0 where
  pub size : ℕ
  pub some : 0 < size
  pub small : size ≤ greatest
  pub framed : IsFramed size id effect out

abbrev pub EachFits : ℕ → ℕ → List Done → Type 0
EachFits greatest id [] = Unit {0}
EachFits greatest id (d ∷ done) = Fits greatest id d.effect d.frames × EachFits greatest id done

pub both_fit : (greatest id : ℕ) (front back : List Done) → EachFits greatest id (front ++ back) → EachFits greatest id front × EachFits greatest id back
both_fit greatest id [] back f = (tt, f)
both_fit greatest id (d ∷ front) back f = let rest = both_fit greatest id front back f.1 in ((f.0, rest.0), rest.1)

-- ---- parts

no_part : (greatest id : ℕ) → IsPart greatest id [] []
no_part greatest id = ([], refl, All-nil (λ (piece : List ℕ). (0 < length piece) × (length piece ≤ greatest)), refl)

wider : (size greatest id : ℕ) (bytes out : List ℕ) → size ≤ greatest → IsPart size id bytes out → IsPart greatest id bytes out
wider size greatest id bytes out small (pieces, is, within, framed) = (pieces, is, λ k d h. (let w = within k d h in (w.0, omega (arith, small, w.1))), framed)

part_more : (greatest id : ℕ) (first second out more : List ℕ) → IsPart greatest id first out → IsPart greatest id second more → IsPart greatest id (first ++ second) (out ++ more)
part_more greatest id first second out more (one, is, within, framed) (two, are, inside, also) = (
  one ++ two,
  ap (λ (z : List ℕ). z ++ second) is ∙ ap (λ (z : List ℕ). joined one ++ z) are ∙ sym (flat_map-append (λ (piece : List ℕ). piece) one two),
  All-append (λ (piece : List ℕ). (0 < length piece) × (length piece ≤ greatest)) one two within inside,
  ap (λ (z : List ℕ). z ++ more) framed ∙ ap (λ (z : List ℕ). data_of id one ++ z) also ∙ sym (flat_map-append (λ (piece : List ℕ). frame_bytes Data 0 id piece) one two),
)

part_of : (greatest id : ℕ) (effect : Effect) (out : List ℕ) (rest : List Done) → Fits greatest id effect out → ends_text (effect ∷ effects rest) ≡ false
    → (ends_text (effects rest) ≡ false → IsPart greatest id (text_sent (effects rest)) (frames rest)) → IsPart greatest id (text_sent (effect ∷ effects rest)) (out ++ frames rest)
part_of greatest id (Executed request reply) out rest f still more = subst (λ (z : List ℕ). IsPart greatest id (text_sent (effects rest)) (z ++ frames rest)) (sym f.framed) (more still)
part_of greatest id (Settled reply) out rest f still more = subst (λ (z : List ℕ). IsPart greatest id (text_sent (effects rest)) (z ++ frames rest)) (sym f.framed) (more still)
part_of greatest id (Sent text false) out rest f still more = part_more greatest id text (text_sent (effects rest)) out (frames rest) (wider f.size greatest id text out f.small f.framed) (more still)
part_of greatest id (Sent text true) out rest f still more = absurd (cc (still))

-- what is sent of a text that continues is a part of it
pub parts : (greatest id : ℕ) (done : List Done) → EachFits greatest id done → ends_text (effects done) ≡ false → IsPart greatest id (text_sent (effects done)) (frames done)
parts greatest id [] f still = no_part greatest id
parts greatest id (d ∷ done) f still = part_of greatest id d.effect d.frames done f.0 still (λ continues. parts greatest id done f.1 continues)

-- nothing is sent of no text
pub silent : (greatest id : ℕ) (out : List ℕ) → IsPart greatest id [] out → out ≡ []
silent greatest id out ([], is, within, framed) = framed
silent greatest id out ([] ∷ pieces, is, within, framed) = absurd (omega (arith, (within 0 [] (omega arith)).0))
silent greatest id out ((byte ∷ piece) ∷ pieces, is, within, framed) = absurd (cc (is))

-- ---- whole answers

ended : PartsAreAnAnswer → (greatest id : ℕ) (bytes out piece end : List ℕ) → IsPart greatest id bytes out → Fits greatest id (Sent piece true) end → IsAnswerCutAnywhere greatest id (bytes ++ piece) (out ++ end)
ended law greatest id bytes out piece end part f =
    let one : Part = record { bytes = bytes; frames = out } in
    let are : AreParts greatest id (one ∷ []) =
    All-cons (λ (p : Part). (size : ℕ) × (size ≤ greatest) × IsPart size id p.bytes p.frames) one [] (greatest, omega arith, part) (All-nil (λ (p : Part). (size : ℕ) × (size ≤ greatest) × IsPart size id p.bytes p.frames)) in
    subst (λ (z : List ℕ). IsAnswerCutAnywhere greatest id (z ++ piece) (out ++ end)) (append-nil bytes)
    (subst (λ (z : List ℕ). IsAnswerCutAnywhere greatest id ((bytes ++ []) ++ piece) (z ++ end)) (append-nil out) (law greatest f.size id (one ∷ []) piece end are f.some f.small f.framed))

-- a text with its last piece is sent as a response
pub whole : PartsAreAnAnswer → (greatest id : ℕ) (done : List Done) (before : List Effect) (piece : List ℕ) → EachFits greatest id done → effects done ≡ before ++ Sent piece true ∷ [] → ends_text before ≡ false
    → IsAnswerCutAnywhere greatest id (text_sent before ++ piece) (frames done)
whole law greatest id done before piece f e still =
    let s = split (λ (d : Done). d.effect) done before (Sent piece true ∷ []) e in
    let last = single (λ (d : Done). d.effect) s.back (Sent piece true) s.of_right in
    let is : done ≡ s.front ++ last.one ∷ [] = s.is ∙ ap (λ (z : List Done). s.front ++ z) last.is in
    let fit = both_fit greatest id s.front (last.one ∷ []) (subst (λ (z : List Done). EachFits greatest id z) is f) in
    let part : IsPart greatest id (text_sent before) (frames s.front)
    = subst (λ (z : List Effect). IsPart greatest id (text_sent z) (frames s.front)) s.of_left (parts greatest id s.front fit.0 (ap ends_text s.of_left ∙ still)) in
    let end : Fits greatest id (Sent piece true) last.one.frames = subst (λ (z : Effect). Fits greatest id z last.one.frames) last.same fit.1.0 in
    let all : frames done ≡ frames s.front ++ last.one.frames
    = ap frames is ∙ flat_map-append (λ (d : Done). d.frames) s.front (last.one ∷ []) ∙ ap (λ (z : List ℕ). frames s.front ++ z) (append-nil last.one.frames) in
    subst (λ (z : List ℕ). IsAnswerCutAnywhere greatest id (text_sent before ++ piece) z) (sym all) (ended law greatest id (text_sent before) (frames s.front) piece last.one.frames part end)
