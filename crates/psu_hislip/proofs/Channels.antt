-- What a channel awaits, from one step to the next.
use Rattle.std.proofs.Common.{◌≡◌, ◌≢◌, ℕ, ◌+◌, ◌-◌, ◌<◌, ◌≤◌, List, [], ◌∷◌, ◌++◌, length, take, drop, refl, sym, ap, ◌∙◌, subst, arith, append_assoc, inl, inr, length-append, length-drop, Bool, true, false, ◌==◌, Option, Some, None, Vec, length-take-le}
use Rattle.std.proofs.lemmas.List.{append-nil, take-append-le, take-append-drop, take_all}
use Rattle.psu_hislip.specs.declared.header.Header.{Header}
use Rattle.psu_hislip.specs.Header.{header_bytes, Fits}
use Rattle.psu_hislip.specs.Stream.{Received, IsStream, StartsWith, received}
use Rattle.psu_hislip.specs.Stream.Received.{Frame, Oversize, BadHeader}
use Rattle.psu_hislip.specs.Channel.{Awaited, Follows, Moves, Fed}
use Rattle.psu_hislip.specs.Channel.Awaited.{Partial, Passing, Ended}
use Rattle.psu_hislip.specs.Rest.{awaited, IsRest, IsCutOf, IsFedBy, all_received, given}
use Rattle.psu_hislip.specs.declared.message.Message.{Message}
use Rattle.psu_hislip.specs.declared.rest.Rest.{Rest}
use Rattle.psu_hislip.specs.declared.rest.Rest.TheVariants as rest
use Rattle.std.proofs.Math.ListN.{set}
use Rattle.std.proofs.Math.Seq.{set-append_seam, take-add}
use Rattle.psu_hislip.proofs.Headers.{length-header_bytes, header_begins, same_header}

-- ---- no complete message

pub none_short : (bytes : List ℕ) → length bytes < 16 → IsStream bytes []
none_short bytes short (Frame h p) more s =
    absurd (omega (arith, length-header_bytes h, ap length s.1, length-append (header_bytes h) (p ++ more)))
none_short bytes short (Oversize h) more s =
    let p = s.2 in
    absurd (omega (arith, length-header_bytes h, ap length p.1, length-append (header_bytes h) (p.0 ++ more)))
none_short bytes short BadHeader more s = absurd (omega (arith, s.0))

pub none_begun : (h : Header) (p : List ℕ) → Fits h → length p < h.length → h.length ≤ 65536 → IsStream (header_bytes h ++ p) []
none_begun h p f short small (Frame k q) more s =
    let same = same_header h k p (q ++ more) f s.0 s.1 in
    absurd (omega (arith, ap (λ (z : Header). z.length) same.0, ap length same.1, length-append q more, s.2))
none_begun h p f short small (Oversize k) more s =
    let e = s.2 in
    let same = same_header h k p (e.0 ++ more) f s.0 e.1 in
    absurd (omega (arith, ap (λ (z : Header). z.length) same.0, s.1))
none_begun h p f short small BadHeader more s = absurd (s.1 (header_begins h p))

-- ---- steps

pub moves_bad : (bytes : List ℕ) → length bytes ≡ 16 → take 2 bytes ≢ 72 ∷ 83 ∷ [] → Moves (Partial bytes) [] (BadHeader ∷ []) Ended
moves_bad bytes n bad more later e =
    ([], (omega (arith, length-append bytes more), (λ b. bad (sym (take-append-le 2 bytes more (omega (arith, n))) ∙ b)), refl), subst (IsStream []) (sym e) (none_short [] (omega arith)))

pub moves_oversize : (h : Header) → Fits h → 65536 < h.length → Moves (Partial (header_bytes h)) [] (Oversize h ∷ []) (Passing h.length)
moves_oversize h f big more later (inl w) =
    ([], (f, big, (more, ap (λ (z : List ℕ). header_bytes h ++ z) (sym (append-nil more)), inr (w.0, refl))), subst (IsStream []) (sym w.1) (none_short [] (omega arith)))
moves_oversize h f big more later (inr w) =
    (w.1, (f, big, (w.0, ap (λ (z : List ℕ). header_bytes h ++ z) w.2, inl w.3)), w.4)

pub moves_frame : (h : Header) (p : List ℕ) → Fits h → length p ≡ h.length → h.length ≤ 65536 → Moves (Partial (header_bytes h ++ p)) [] (Frame h p ∷ []) (Partial [])
moves_frame h p f n small more later s = (more, (f, append_assoc (header_bytes h) p more, n, small), s)

pub moves_begun : (bytes part : List ℕ) → Moves (Partial bytes) part [] (Partial (bytes ++ part))
moves_begun bytes part more later s = subst (λ (z : List ℕ). IsStream z later) (append_assoc bytes part more) s

pub moves_passing : (n : ℕ) (part : List ℕ) → length part < n → Moves (Passing n) part [] (Passing (n - length part))
moves_passing n part short more later (inl w) = inl (omega (arith, length-append part more, w.0), w.1)
moves_passing n part short more later (inr w) =
    inr (part ++ w.0, w.1, ap (λ (z : List ℕ). part ++ z) w.2 ∙ sym (append_assoc part w.0 w.1), omega (arith, length-append part w.0, w.3), w.4)

pub moves_passed : (n : ℕ) (part : List ℕ) → length part ≡ n → Moves (Passing n) part [] (Partial [])
moves_passed n part e more later s = inr (part, more, refl, e, s)

pub moves_ended : (part : List ℕ) → Moves Ended part [] Ended
moves_ended part more later e = e

pub moves_none : (r : Awaited) → Moves r [] [] r
moves_none r more later f = f

-- one step after another
pub moves_then : (r s t : Awaited) (a b : List ℕ) (ms ns : List Received) → Moves r a ms s → Moves s b ns t → Moves r (a ++ b) (ms ++ ns) t
moves_then r s t a b ms ns m n more later f =
    subst (λ (z : List ℕ). Follows r z ((ms ++ ns) ++ later)) (sym (append_assoc a b more))
    (subst (λ (z : List Received). Follows r (a ++ (b ++ more)) z) (sym (append_assoc ms ns later)) (m (b ++ more) (ns ++ later) (n more later f)))

-- ---- a complete header, and what follows it in the piece

none_taken : (after : List ℕ) (used : ℕ) → take (used - used) after ≡ []
none_taken after used = let none : used - used ≡ 0 = omega arith in ap (λ (n : ℕ). take n after) none

-- nothing is taken after the header
pub headed_only : (bytes after : List ℕ) (used : ℕ) (ms : List Received) (s : Awaited) → Moves (Partial bytes) [] ms s → Moves (Partial bytes) (take (used - used) after) ms s
headed_only bytes after used ms s m = subst (λ (z : List ℕ). Moves (Partial bytes) z ms s) (sym (none_taken after used)) m

-- the bytes of a piece that complete a header, and then what is taken after them
pub moves_headed : (head bytes piece : List ℕ) (n used : ℕ) (ms : List Received) (s : Awaited) → bytes ≡ head ++ take n piece → n ≤ used
    → Moves (Partial bytes) (take (used - n) (drop n piece)) ms s → Moves (Partial head) (take used piece) ms s
moves_headed head bytes piece n used ms s is more m =
    let count : n + (used - n) ≡ used = omega arith in
    let both : take n piece ++ take (used - n) (drop n piece) ≡ take used piece = sym (take-add n (used - n) piece) ∙ ap (λ (k : ℕ). take k piece) count in
    subst (λ (z : List ℕ). Moves (Partial head) z ms s) both
    (moves_then (Partial head) (Partial bytes) s (take n piece) (take (used - n) (drop n piece)) [] ms
    (subst (λ (z : List ℕ). Moves (Partial head) (take n piece) [] (Partial z)) (sym is) (moves_begun head (take n piece))) m)

-- the whole rest after some bytes
whole_tail : (xs : List ℕ) (n : ℕ) → take (length xs - n) (drop n xs) ≡ drop n xs
whole_tail xs n = take_all (length xs - n) (drop n xs) (omega (arith, length-drop n xs))

-- one more step through a piece
pub a_step : (r s t : Awaited) (piece left : List ℕ) (used : ℕ) (ms ns : List Received) → ((front : List ℕ) × (piece ≡ front ++ left) × Moves r front ms s)
    → Moves s (take used left) ns t → (front : List ℕ) × (piece ≡ front ++ take (length left - used) (drop used left)) × Moves r front (ms ++ ns) t
a_step r s t piece left used ms ns f m = (
  f.0 ++ take used left,
  f.1 ∙ ap (λ (z : List ℕ). f.0 ++ z) (sym (take-append-drop used left) ∙ ap (λ (z : List ℕ). take used left ++ z) (sym (whole_tail left used)))
      ∙ sym (append_assoc f.0 (take used left) (take (length left - used) (drop used left))),
  moves_then r s t f.0 (take used left) ms ns f.2 m,
)

pub settled : {A : Type 0} (r : Rest A) → IsRest r → Follows (awaited r) [] []
settled (rest.Header head) short = subst (λ (z : List ℕ). IsStream z []) (sym (append-nil head.items)) (none_short head.items short)
settled (rest.Payload h p) k = subst (λ (z : List ℕ). IsStream z []) (sym (append-nil (header_bytes h ++ p.items))) (none_begun h p.items k.0 k.1 k.2)
settled (rest.Passing n) some = inl (some, refl)
settled rest.Ended some = refl

pub fed_none : Fed (Partial []) [] []
fed_none = (none_short [] (omega arith), moves_none (Partial []))

pub fed_on : (r s : Awaited) (stream piece : List ℕ) (before ms : List Received) → Follows s [] [] → Moves r piece ms s → Fed r stream before → Fed s (stream ++ piece) (before ++ ms)
fed_on r s stream piece before ms quiet m f =
    let all = moves_then (Partial []) r s stream piece before ms f.1 m in (
      subst (λ (z : List ℕ). IsStream z (before ++ ms)) (append-nil (stream ++ piece))
          (subst (λ (z : List Received). IsStream ((stream ++ piece) ++ []) z) (append-nil (before ++ ms)) (all [] [] quiet)),
      all,
    )

pub all_received-append : {A : Type 0} (ms ns : List (Message A)) → all_received (ms ++ ns) ≡ all_received ms ++ all_received ns
all_received-append [] ns = refl
all_received-append (m ∷ ms) ns = ap (λ (z : List Received). received m ∷ z) (all_received-append ms ns)

pub no_more : (xs : List ℕ) (b : Bool) → b ≡ (length xs == 0) → b ≡ true → xs ≡ []
no_more [] b e t = refl
no_more (x ∷ xs) b e t = absurd (grind (arith, e, t))

pub some_more : (xs : List ℕ) (b : Bool) → b ≡ (length xs == 0) → b ≡ false → 0 < length xs
some_more [] b e t = absurd (grind (arith, e, t))
some_more (x ∷ xs) b e t = omega arith

-- a piece is used up
pub all_steps : (r s : Awaited) (piece left : List ℕ) (ms : List Received) → ((front : List ℕ) × (piece ≡ front ++ left) × Moves r front ms s) → left ≡ [] → Moves r piece ms s
all_steps r s piece left ms f none =
    subst (λ (z : List ℕ). Moves r z ms s) (sym (f.1 ∙ ap (λ (z : List ℕ). f.0 ++ z) none ∙ append-nil f.0)) f.2

-- # The messages of a piece

abbrev listed : {A : Type 0} → Option (Message A) → List (Message A)
listed None = []
listed (Some message) = message ∷ []

all_received-listed : {A : Type 0} (m : Option (Message A)) → all_received (listed m) ≡ given m
all_received-listed None = refl
all_received-listed (Some message) = refl

pub cut_none : {A : Type 0} (before : List (Message A)) (r : Awaited) (piece : List ℕ) → (front : List ℕ) × (piece ≡ front ++ piece) × IsCutOf before r front before r
cut_none before r piece = ([], refl, ([], sym (append-nil before), moves_none r))

-- one more step
cut_step : {A : Type 0} (before mid after : List (Message A)) (m : Option (Message A)) (r s t : Awaited) (piece left : List ℕ) (used : ℕ)
    → ((front : List ℕ) × (piece ≡ front ++ left) × IsCutOf before r front mid s) → Moves s (take used left) (given m) t → after ≡ mid ++ listed m
    → (front : List ℕ) × (piece ≡ front ++ take (length left - used) (drop used left)) × IsCutOf before r front after t
cut_step before mid after m r s t piece left used f moves e =
    let cut = f.2 in
    let all = a_step r s t piece left used (all_received cut.0) (given m) (f.0, f.1, cut.2) moves in
    let gives : all_received cut.0 ++ given m ≡ all_received (cut.0 ++ listed m) =
    ap (λ (z : List Received). all_received cut.0 ++ z) (sym (all_received-listed m)) ∙ sym (all_received-append cut.0 (listed m)) in (
      all.0,
      all.1,
      (
        cut.0 ++ listed m,
        e ∙ ap (λ z. z ++ listed m) cut.1 ∙ append_assoc before cut.0 (listed m),
        subst (λ (z : List Received). Moves r all.0 z t) gives all.2,
      ),
    )

pub cut_message : {A : Type 0} (before mid pushed after : List (Message A)) (m : Option (Message A)) (x : Message A) (r s t : Awaited) (piece left : List ℕ) (used : ℕ)
    → ((front : List ℕ) × (piece ≡ front ++ left) × IsCutOf before r front mid s) → Moves s (take used left) (given m) t
    → m ≡ Some x → after ≡ pushed → pushed ≡ mid ++ x ∷ []
    → (front : List ℕ) × (piece ≡ front ++ take (length left - used) (drop used left)) × IsCutOf before r front after t
cut_message before mid pushed after m x r s t piece left used f moves is same e =
    cut_step before mid after m r s t piece left used f moves (same ∙ e ∙ ap (λ z. mid ++ listed z) (sym is))

pub cut_no_message : {A : Type 0} (before mid after : List (Message A)) (m : Option (Message A)) (r s t : Awaited) (piece left : List ℕ) (used : ℕ)
    → ((front : List ℕ) × (piece ≡ front ++ left) × IsCutOf before r front mid s) → Moves s (take used left) (given m) t → m ≡ None → after ≡ mid
    → (front : List ℕ) × (piece ≡ front ++ take (length left - used) (drop used left)) × IsCutOf before r front after t
cut_no_message before mid after m r s t piece left used f moves is same =
    cut_step before mid after m r s t piece left used f moves (same ∙ sym (append-nil mid) ∙ ap (λ z. mid ++ listed z) (sym is))

-- the piece is used up
pub cut_whole_piece : {A : Type 0} (before after : List (Message A)) (r s : Awaited) (piece left : List ℕ)
    → ((front : List ℕ) × (piece ≡ front ++ left) × IsCutOf before r front after s) → left ≡ [] → IsCutOf before r piece after s
cut_whole_piece before after r s piece left f none =
    let cut = f.2 in (cut.0, cut.1, all_steps r s piece left (all_received cut.0) (f.0, f.1, cut.2) none)

-- # Whole frames

moves_whole_frame : (h : Header) (payload : List ℕ) → Fits h → length payload ≡ h.length → h.length ≤ 65536 → Moves (Partial []) (header_bytes h ++ payload) (Frame h payload ∷ []) (Partial [])
moves_whole_frame h payload fits n small more later s = (more, (fits, append_assoc (header_bytes h) payload more, n, small), s)

-- the frame that what is left begins with
pub cut_frame : {A : Type 0} (before mid after : List (Message A)) (x : Message A) (h : Header) (payload piece left next : List ℕ)
    → ((front : List ℕ) × (piece ≡ front ++ left) × IsCutOf before (Partial []) front mid (Partial []))
    → StartsWith (Frame h payload) left next → received x ≡ Frame h payload → after ≡ mid ++ x ∷ []
    → (front : List ℕ) × (piece ≡ front ++ next) × IsCutOf before (Partial []) front after (Partial [])
cut_frame before mid after x h payload piece left next f s is e =
    let cut = f.2 in
    let frame = header_bytes h ++ payload in
    let moves = moves_then (Partial []) (Partial []) (Partial []) f.0 frame (all_received cut.0) (Frame h payload ∷ []) cut.2 (moves_whole_frame h payload s.0 s.2 s.3) in
    let gives : all_received cut.0 ++ Frame h payload ∷ [] ≡ all_received (cut.0 ++ x ∷ []) =
    ap (λ (z : Received). all_received cut.0 ++ z ∷ []) (sym is) ∙ sym (all_received-append cut.0 (x ∷ [])) in (
      f.0 ++ frame,
      f.1 ∙ ap (λ (z : List ℕ). f.0 ++ z) (s.1 ∙ sym (append_assoc (header_bytes h) payload next)) ∙ sym (append_assoc f.0 frame next),
      (
        cut.0 ++ x ∷ [],
        e ∙ ap (λ z. z ++ x ∷ []) cut.1 ∙ append_assoc before cut.0 (x ∷ []),
        subst (λ (z : List Received). Moves (Partial []) (f.0 ++ frame) z (Partial [])) gives moves,
      ),
    )

-- fewer bytes are left after a frame
pub frame_shorter : (h : Header) (payload left next : List ℕ) → StartsWith (Frame h payload) left next → length next < length left
frame_shorter h payload left next s =
    omega (arith, ap length s.1, length-append (header_bytes h) (payload ++ next), length-append payload next, length-header_bytes h)

pub frame_bytes_are : (h : Header) (bytes head rest payload next : List ℕ) → header_bytes h ≡ head → head ≡ take 16 bytes → rest ≡ drop 16 bytes → rest ≡ payload ++ next
    → bytes ≡ header_bytes h ++ (payload ++ next)
frame_bytes_are h bytes head rest payload next is first then parts =
    sym (take-append-drop 16 bytes) ∙ ap (λ (z : List ℕ). z ++ drop 16 bytes) (sym first ∙ sym is) ∙ ap (λ (z : List ℕ). header_bytes h ++ z) (sym then ∙ parts)

-- # A feed

pub fed_cut : {A : Type 0} (r s : Awaited) (before after : List (Message A)) (piece : List ℕ) → Follows s [] [] → IsCutOf before r piece after s → IsFedBy r piece s before after
fed_cut r s before after piece quiet cut = (cut.0, cut.1, λ stream gave f. fed_on r s stream piece gave (all_received cut.0) quiet cut.2 f)

pub payload_awaited : {A : Type 0} (r : Rest A) (h : Header) (p : Vec ℕ A) (now : Awaited) → r ≡ rest.Payload h p → awaited r ≡ now → now ≡ Partial (header_bytes h ++ p.items)
payload_awaited r h p now is view = sym view ∙ ap awaited is

pub payload_rest : {A : Type 0} (r : Rest A) (h : Header) (p : Vec ℕ A) → r ≡ rest.Payload h p → IsRest r → Fits h × (length p.items < h.length) × (h.length ≤ 65536)
payload_rest r h p is good = subst IsRest is good

-- a part of a payload
pub fed_part : {A : Type 0} (h : Header) (p part next : List ℕ) (messages : List (Message A)) → next ≡ p ++ part → Fits h
    → length (p ++ part) < h.length → h.length ≤ 65536 → IsFedBy (Partial (header_bytes h ++ p)) part (Partial (header_bytes h ++ next)) messages messages
fed_part h p part next messages e fits short small =
    let old = Partial (header_bytes h ++ p) in
    let moves = subst (λ (z : List ℕ). Moves old part [] (Partial z)) (append_assoc (header_bytes h) p part) (moves_begun (header_bytes h ++ p) part) in
    let quiet = subst (λ (z : List ℕ). IsStream z []) (sym (append-nil (header_bytes h ++ (p ++ part)))) (none_begun h (p ++ part) fits short small) in
    subst (λ (z : List ℕ). IsFedBy old part (Partial (header_bytes h ++ z)) messages messages) (sym e)
    ([], sym (append-nil messages), λ stream gave f. fed_on old (Partial (header_bytes h ++ (p ++ part))) stream part gave [] quiet moves f)

moves_payload : (h : Header) (p part : List ℕ) → Fits h → length (p ++ part) ≡ h.length → h.length ≤ 65536
    → Moves (Partial (header_bytes h ++ p)) part (Frame h (p ++ part) ∷ []) (Partial [])
moves_payload h p part fits n small more later s =
    (more, (fits, append_assoc (header_bytes h) p (part ++ more) ∙ ap (λ (z : List ℕ). header_bytes h ++ z) (sym (append_assoc p part more)), n, small), s)

-- the message in the place of another, which was appended before more were
put_at : {A : Type 0} (before pushed all more : List A) (place : ℕ) (m x : A) → place ≡ length before → pushed ≡ before ++ m ∷ [] → all ≡ pushed ++ more → set all place x ≡ before ++ x ∷ more
put_at before pushed all more place m x at b e =
    ap (λ (z : ℕ). set all z x) at
    ∙ ap (λ z. set z (length before) x) (e ∙ ap (λ z. z ++ more) b ∙ append_assoc before (m ∷ []) more)
    ∙ set-append_seam before m more x

-- the end of a payload, followed by the messages after it
pub fed_whole : {A : Type 0} (h : Header) (p piece : List ℕ) (wanted : ℕ) (s : Awaited) (head : List ℕ) (before pushed all after : List (Message A)) (place : ℕ) (m x : Message A)
    → head ≡ [] → place ≡ length before → pushed ≡ before ++ m ∷ [] → IsCutOf pushed (Partial head) (take (length piece - wanted) (drop wanted piece)) all s → after ≡ set all place x
    → received x ≡ Frame h (p ++ take wanted piece) → Fits h → length p < h.length → h.length ≤ 65536 → wanted ≡ h.length - length p → wanted ≤ length piece
    → Follows s [] [] → IsFedBy (Partial (header_bytes h ++ p)) piece s before after
fed_whole h p piece wanted s head before pushed all after place m x begins at push cut put is fits short small want long quiet =
    let old = Partial (header_bytes h ++ p) in
    let part = take wanted piece in
    let rest = take (length piece - wanted) (drop wanted piece) in
    let moves = subst (λ (z : List ℕ). Moves (Partial z) rest (all_received cut.0) s) begins cut.2 in
    let n : length (p ++ part) ≡ h.length = omega (arith, length-append p part, length-take-le wanted piece long) in
    let whole = moves_then old (Partial []) s part rest (Frame h (p ++ part) ∷ []) (all_received cut.0) (moves_payload h p part fits n small) moves in
    let named = subst (λ (z : Received). Moves old (part ++ rest) (z ∷ all_received cut.0) s) (sym is) whole in
    let all_moves = subst (λ (z : List ℕ). Moves old z (received x ∷ all_received cut.0) s)
    (ap (λ (z : List ℕ). part ++ z) (whole_tail piece wanted) ∙ take-append-drop wanted piece) named in
    (x ∷ cut.0, put ∙ put_at before pushed all cut.0 place m x at push cut.1, λ stream gave f. fed_on old s stream piece gave (all_received (x ∷ cut.0)) quiet all_moves f)

-- a piece that is fed in two parts
pub fed_then : {A : Type 0} (r s t : Awaited) (front left piece : List ℕ) (before mid after : List (Message A)) → piece ≡ front ++ left
    → IsFedBy r front s before mid → IsFedBy s left t mid after → IsFedBy r piece t before after
fed_then r s t front left piece before mid after e f n = (
  f.0 ++ n.0,
  n.1 ∙ ap (λ z. z ++ n.0) f.1 ∙ append_assoc before f.0 n.0,
  λ stream gave fed.
      let all = n.2 (stream ++ front) (gave ++ all_received f.0) (f.2 stream gave fed) in
      let bytes : (stream ++ front) ++ left ≡ stream ++ piece = append_assoc stream front left ∙ ap (λ (z : List ℕ). stream ++ z) (sym e) in
      let messages : (gave ++ all_received f.0) ++ all_received n.0 ≡ gave ++ all_received (f.0 ++ n.0) =
      append_assoc gave (all_received f.0) (all_received n.0) ∙ ap (λ (z : List Received). gave ++ z) (sym (all_received-append f.0 n.0)) in
      subst (λ (z : List ℕ). Fed t z (gave ++ all_received (f.0 ++ n.0))) bytes (subst (λ (z : List Received). Fed t ((stream ++ front) ++ left) z) messages all),
)
