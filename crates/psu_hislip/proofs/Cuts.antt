-- A response cut into frames, up to a position.
use Rattle.std.proofs.Common.{◌≡◌, ◌≤◌, ◌<◌, suc, ◌-◌, ℕ, List, [], ◌∷◌, ◌++◌, length, take, drop, refl, sym, ap, ◌∙◌, arith, append_assoc, length-drop, All}
use Rattle.std.proofs.lemmas.List.{append-nil, take-append-drop, take_all, length-take-le}
use Rattle.std.proofs.lemmas.List.Elements.{All-nil, All-push, All-append}
use Rattle.std.specs.Prelude.{flat_map}
use Rattle.psu_hislip.specs.Frame.{frame_bytes}
use Rattle.psu_hislip.specs.Answer.{joined, data_of, IsCut, IsAnswer, AreWithin, IsPart, Part, AreParts, bytes_of, all_frames, IsAnswerCutAnywhere}
use Rattle.psu_hislip.specs.declared.message_type.MessageType.TheVariants.{Data, DataEnd}

-- the full pieces so far as Data, and the rest of the response
pub record CutSoFar (size id : ℕ) (bytes rest frames : List ℕ) (full : List (List ℕ)) : Type 0 where
  pub whole : bytes ≡ joined full ++ rest
  pub filled : All (λ piece. length piece ≡ size) full
  pub sent : frames ≡ flat_map (λ piece. frame_bytes Data 0 id piece) full
  pub some : rest ≡ [] → bytes ≡ []

flat_map-append : (f : List ℕ → List ℕ) (xs : List (List ℕ)) (x : List ℕ) → flat_map f (xs ++ x ∷ []) ≡ flat_map f xs ++ f x
flat_map-append f [] x = append-nil (f x)
flat_map-append f (y ∷ xs) x = ap (λ (z : List ℕ). f y ++ z) (flat_map-append f xs x) ∙ sym (append_assoc (f y) (flat_map f xs) (f x))

whole_tail : (xs : List ℕ) (n : ℕ) → take (length xs - n) (drop n xs) ≡ drop n xs
whole_tail xs n = take_all (length xs - n) (drop n xs) (omega (arith, length-drop n xs))

pub cut_none : (size id : ℕ) (bytes frames : List ℕ) → frames ≡ [] → CutSoFar size id bytes bytes frames []
cut_none size id bytes frames e = record { whole = refl; filled = All-nil (λ (piece : List ℕ). length piece ≡ size); sent = e; some = λ n. n }

pub cut_piece : (size id : ℕ) (bytes rest frames more : List ℕ) (full : List (List ℕ)) → CutSoFar size id bytes rest frames full → size < length rest
    → more ≡ frames ++ frame_bytes Data 0 id (take size rest)
    → CutSoFar size id bytes (take (length rest - size) (drop size rest)) more (full ++ take size rest ∷ [])
cut_piece size id bytes rest frames more full c long e = record {
  whole = c.whole ∙ ap (λ (z : List ℕ). joined full ++ z) (sym (take-append-drop size rest) ∙ ap (λ (z : List ℕ). take size rest ++ z) (sym (whole_tail rest size)))
      ∙ sym (append_assoc (joined full) (take size rest) (take (length rest - size) (drop size rest)))
      ∙ ap (λ (z : List ℕ). z ++ take (length rest - size) (drop size rest)) (sym (flat_map-append (λ piece. piece) full (take size rest)));
  filled = All-push (λ (piece : List ℕ). length piece ≡ size) full (take size rest) c.filled (length-take-le size rest (omega (arith, long)));
  sent = e ∙ ap (λ (z : List ℕ). z ++ frame_bytes Data 0 id (take size rest)) c.sent ∙ sym (flat_map-append (λ piece. frame_bytes Data 0 id piece) full (take size rest));
  some = λ none. absurd (omega (arith, ap length (sym (whole_tail rest size) ∙ none), length-drop size rest, long));
}

pub cut_whole : (size id : ℕ) (bytes rest frames : List ℕ) (full : List (List ℕ)) → CutSoFar size id bytes rest frames full → length rest ≤ size
    → (all : List (List ℕ)) × IsCut size bytes all rest × (frames ≡ data_of id all)
cut_whole size id bytes rest frames full c short =
    (full, record { whole = c.whole; filled = c.filled; within = short; some = c.some }, c.sent)

pub an_answer : (size id : ℕ) (bytes last frames more : List ℕ) → ((full : List (List ℕ)) × IsCut size bytes full last × (frames ≡ data_of id full))
    → more ≡ frames ++ frame_bytes DataEnd 0 id last → IsAnswer size id bytes more
an_answer size id bytes last frames more c e = (c.0, last, c.1, e ∙ ap (λ (z : List ℕ). z ++ frame_bytes DataEnd 0 id last) c.2)

-- full pieces are not empty
are_within : (size : ℕ) (full : List (List ℕ)) → 0 < size → All (λ piece. length piece ≡ size) full → AreWithin size full
are_within size full some f = λ k d h. (omega (arith, some, f k d h), omega (arith, f k d h))

still_within : (size greatest : ℕ) (pieces : List (List ℕ)) → size ≤ greatest → AreWithin size pieces → AreWithin greatest pieces
still_within size greatest pieces small f = λ k d h. let w = f k d h in (w.0, omega (arith, small, w.1))

pub a_part : (size id : ℕ) (bytes last frames more : List ℕ) → 0 < size → ((full : List (List ℕ)) × IsCut size bytes full last × (frames ≡ data_of id full))
    → 0 < length last → more ≡ frames ++ frame_bytes Data 0 id last → IsPart size id bytes more
a_part size id bytes last frames more some c many e = (
  c.0 ++ last ∷ [],
  c.1.whole ∙ sym (flat_map-append (λ piece. piece) c.0 last),
  All-push (λ (piece : List ℕ). (0 < length piece) × (length piece ≤ size)) c.0 last (are_within size c.0 some c.1.filled) (many, c.1.within),
  e ∙ ap (λ (z : List ℕ). z ++ frame_bytes Data 0 id last) c.2 ∙ sym (flat_map-append (λ piece. frame_bytes Data 0 id piece) c.0 last),
)

pub a_full_part : (size id : ℕ) (bytes last frames : List ℕ) → 0 < size → ((full : List (List ℕ)) × IsCut size bytes full last × (frames ≡ data_of id full))
    → last ≡ [] → IsPart size id bytes frames
a_full_part size id bytes last frames some c none =
    (c.0, c.1.whole ∙ ap (λ (z : List ℕ). joined c.0 ++ z) none ∙ append-nil (joined c.0), are_within size c.0 some c.1.filled, c.2)

-- # Parts put together

flat_map-both : (f : List ℕ → List ℕ) (xs ys : List (List ℕ)) → flat_map f (xs ++ ys) ≡ flat_map f xs ++ flat_map f ys
flat_map-both f [] ys = refl
flat_map-both f (x ∷ xs) ys = ap (λ (z : List ℕ). f x ++ z) (flat_map-both f xs ys) ∙ sym (append_assoc (f x) (flat_map f xs) (flat_map f ys))

pub parts_are_an_answer : (greatest size id : ℕ) (parts : List Part) (rest end : List ℕ) → AreParts greatest id parts → 0 < size → size ≤ greatest → IsAnswer size id rest end
    → IsAnswerCutAnywhere greatest id (bytes_of parts ++ rest) (all_frames parts ++ end)
parts_are_an_answer greatest size id [] rest end a some small e =
    let cut = e.2 in
    (e.0, e.1, cut.whole, still_within size greatest e.0 small (are_within size e.0 some cut.filled), omega (arith, cut.within, small), e.3)
parts_are_an_answer greatest size id (p ∷ ps) rest end a some small e =
    let one = a 0 p (omega arith) in
    let cut = one.2 in
    let more = parts_are_an_answer greatest size id ps rest end (λ k d h. a (suc k) d (omega (arith, h))) some small e in
    let sent = λ (piece : List ℕ). frame_bytes Data 0 id piece in (
      cut.0 ++ more.0,
      more.1,
      append_assoc p.bytes (bytes_of ps) rest ∙ ap (λ (z : List ℕ). z ++ (bytes_of ps ++ rest)) cut.1 ∙ ap (λ (z : List ℕ). joined cut.0 ++ z) more.2
          ∙ sym (append_assoc (joined cut.0) (joined more.0) more.1) ∙ ap (λ (z : List ℕ). z ++ more.1) (sym (flat_map-both (λ piece. piece) cut.0 more.0)),
      All-append (λ (piece : List ℕ). (0 < length piece) × (length piece ≤ greatest)) cut.0 more.0 (still_within one.0 greatest cut.0 one.1 cut.2) more.3,
      more.4,
      append_assoc p.frames (all_frames ps) end ∙ ap (λ (z : List ℕ). z ++ (all_frames ps ++ end)) cut.3 ∙ ap (λ (z : List ℕ). data_of id cut.0 ++ z) more.5
          ∙ sym (append_assoc (data_of id cut.0) (data_of id more.0) (frame_bytes DataEnd 0 id more.1))
          ∙ ap (λ (z : List ℕ). z ++ frame_bytes DataEnd 0 id more.1) (sym (flat_map-both sent cut.0 more.0)),
    )
