-- A stream can be cut into messages in only one way.
use Rattle.std.proofs.Common.{◌≡◌, ℕ, ◌+◌, List, [], ◌∷◌, ◌++◌, length, refl, sym, ap, ◌∙◌, subst, arith, inl, inr, length-append, take}
use Rattle.psu_hislip.specs.declared.header.Header.{Header}
use Rattle.psu_hislip.specs.Header.{header_bytes}
use Rattle.psu_hislip.specs.Stream.{Received, StartsWith, IsStream}
use Rattle.psu_hislip.specs.Stream.Received.{Frame, Oversize, BadHeader}
use Rattle.psu_hislip.proofs.Headers.{header_begins, same_header}

same_front : (a b x y : List ℕ) → length a ≡ length b → a ++ x ≡ b ++ y → (a ≡ b) × (x ≡ y)
same_front [] [] x y n e = (refl, e)
same_front [] (d ∷ b) x y n e = absurd (omega (arith, n))
same_front (c ∷ a) [] x y n e = absurd (omega (arith, n))
same_front (c ∷ a) (d ∷ b) x y n e =
    let head : c ≡ d = cc in
    let tail : a ++ x ≡ b ++ y = cc in
    let more = same_front a b x y (omega (arith, n)) tail in
    (cc (head, more.0), more.1)

long : (h k : Header) → h ≡ k → h.length ≡ k.length
long h k e = ap (λ (z : Header). z.length) e

begins_both : (h : Header) (bytes rest : List ℕ) → bytes ≡ header_bytes h ++ rest → (take 2 bytes ≡ 72 ∷ 83 ∷ [])
begins_both h bytes rest e = ap (take 2) e ∙ header_begins h rest

same_message : (m n : Received) (bytes x y : List ℕ) → StartsWith m bytes x → StartsWith n bytes y → (m ≡ n) × (x ≡ y)
same_message (Frame h p) (Frame k q) bytes x y s t =
    let same = same_header h k (p ++ x) (q ++ y) s.0 t.0 (sym s.1 ∙ t.1) in
    let front = same_front p q x y (omega (arith, long h k same.0, s.2, t.2)) same.1 in
    (cc (same.0, front.0), front.1)
same_message (Frame h p) (Oversize k) bytes x y s t =
    let e = t.2 in
    let same = same_header h k (p ++ x) (e.0 ++ y) s.0 t.0 (sym s.1 ∙ e.1) in
    absurd (omega (arith, long h k same.0, s.3, t.1))
same_message (Oversize k) (Frame h p) bytes x y t s =
    let e = t.2 in
    let same = same_header h k (p ++ y) (e.0 ++ x) s.0 t.0 (sym s.1 ∙ e.1) in
    absurd (omega (arith, long h k same.0, s.3, t.1))
same_message (Frame h p) BadHeader bytes x y s t = absurd (t.1 (begins_both h bytes (p ++ x) s.1))
same_message BadHeader (Frame h p) bytes x y t s = absurd (t.1 (begins_both h bytes (p ++ y) s.1))
same_message (Oversize h) BadHeader bytes x y s t = let e = s.2 in absurd (t.1 (begins_both h bytes (e.0 ++ x) e.1))
same_message BadHeader (Oversize h) bytes x y t s = let e = s.2 in absurd (t.1 (begins_both h bytes (e.0 ++ y) e.1))
same_message BadHeader BadHeader bytes x y s t = (refl, s.2 ∙ sym t.2)
same_message (Oversize h) (Oversize k) bytes x y s t =
    let d = s.2 in
    let e = t.2 in
    let same = same_header h k (d.0 ++ x) (e.0 ++ y) s.0 t.0 (sym d.1 ∙ e.1) in
    let count = long h k same.0 in
    let counts : length d.0 + length x ≡ length e.0 + length y = sym (length-append d.0 x) ∙ ap length same.1 ∙ length-append e.0 y in (
      cc (same.0),
      elim d.2 [
        | inl whole ↦ elim e.2 [
          | inl all ↦ (same_front d.0 e.0 x y (omega (arith, whole, all, count)) same.1).1
          | inr part ↦ absurd (omega (arith, whole, part.0, count, counts, ap length part.1))
        ]
        | inr part ↦ elim e.2 [
          | inl all ↦ absurd (omega (arith, all, part.0, count, counts, ap length part.1))
          | inr other ↦ part.1 ∙ sym other.1
        ]
      ],
    )

pub same_messages : (bytes : List ℕ) (ms ns : List Received) → IsStream bytes ms → IsStream bytes ns → ms ≡ ns
same_messages bytes [] [] s t = refl
same_messages bytes [] (n ∷ ns) s t = absurd (s n t.0 t.1)
same_messages bytes (m ∷ ms) [] s t = absurd (t m s.0 s.1)
same_messages bytes (m ∷ ms) (n ∷ ns) s t =
    let front = same_message m n bytes s.0 t.0 s.1 t.1 in
    let later = same_messages s.0 ms ns s.2 (subst (λ (z : List ℕ). IsStream z ns) (sym front.1) t.2) in
    cc (front.0, later)
