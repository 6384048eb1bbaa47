-- Lemmas on the parts of a text, and on the prefixes that are written of it.
use Rattle.std.proofs.lemmas.Bool.{cases_Bool}
use Rattle.memchr.specs.Find.{IsFirstByte, is_byte}
use Rattle.std.proofs.lemmas.Slice.Eq.{bytes_eq-Decides}
use Rattle.psu_run.proofs.Common.{◌≡◌, ℕ, ◌+◌, ◌-◌, ◌==◌, ◌<◌, ◌≤◌, true, false, List, [], ◌∷◌, ◌++◌, length, take, drop, map, refl, sym, ap, ◌∙◌, arith, slice_index, append_assoc, inl, inr, Some, None, zero, suc, add-one, drop-cons, ◌⊎◌, codes, bytes_eq, if◌then◌else◌, subst, Option, length-append, ◌≢◌, append-nil, Appends, Appends-nil, Appends-trans, Fails, Fault, Keeps, Message, OutputState, RunCause, Says, SaysUntil, Text, TooMuchData, Write, Writes, WritesShort, Written, common_steps, first_onto, get_or-take, has, held, message_of, messages, nat_tests, nothing, parts_of, take-add, take-append-add, take-append-drop, take-append-le}
use Rattle.std.specs.Io.{StartsWith}

-- the first part, without its end, and what comes after it
abbrev first_part : ℕ → List ℕ → List ℕ
first_part end [] = []
first_part end (x ∷ xs) = if x == end then [] else x ∷ first_part end xs

abbrev after_part : ℕ → List ℕ → List ℕ
after_part end [] = []
after_part end (x ∷ xs) = if x == end then xs else after_part end xs

pub has_none : (e x : ℕ) (p : List ℕ) → has e (x ∷ p) ≡ false → ((x == e) ≡ false) × (has e p ≡ false)
has_none e x p h = grind (arith, common_steps, h)

pub has_none_append : (e : ℕ) (a b : List ℕ) → has e a ≡ false → has e b ≡ false → has e (a ++ b) ≡ false
has_none_append e [] b p q = q
has_none_append e (x ∷ a) b p q = grind (arith, has_none_append e a b (has_none e x a p).1 q, (has_none e x a p).0)

-- a part that ends
pub parts_at : (e : ℕ) (p r : List ℕ) → has e p ≡ false → parts_of e (p ++ e ∷ r) ≡ p ∷ parts_of e r
parts_at e [] r h = let end : (e == e) ≡ true = grind (arith, nat_tests) in rw end refl
parts_at e (x ∷ p) r h = rw ((has_none e x p h).0) (ap (first_onto x) (parts_at e p r (has_none e x p h).1))

begun : (e x : ℕ) (input : List ℕ) → first_onto x (parts_of e input) ≡ (x ∷ first_part e input) ∷ parts_of e (after_part e input)
begun e x [] = refl
begun e x (y ∷ r) = elim (cases_Bool (y == e)) [
  | inl t ↦ rw t refl
  | inr f ↦ rw f (ap (first_onto x) (begun e y r))
]

pub parts_begun : (e x : ℕ) (p input : List ℕ) → has e (x ∷ p) ≡ false
    → parts_of e ((x ∷ p) ++ input) ≡ ((x ∷ p) ++ first_part e input) ∷ parts_of e (after_part e input)
parts_begun e x [] input h = rw ((has_none e x [] h).0) (begun e x input)
parts_begun e x (y ∷ p) input h = rw ((has_none e x (y ∷ p) h).0) (ap (first_onto x) (parts_begun e y p input (has_none e x (y ∷ p) h).1))

pub parts_last : (e x : ℕ) (p : List ℕ) → has e (x ∷ p) ≡ false → parts_of e (x ∷ p) ≡ (x ∷ p) ∷ []
parts_last e x [] h = rw ((has_none e x [] h).0) refl
parts_last e x (y ∷ p) h = rw ((has_none e x (y ∷ p) h).0) (ap (first_onto x) (parts_last e y p (has_none e x (y ∷ p) h).1))

-- a list with no such byte at any index has none
free_of : (e : ℕ) (s : List ℕ) → ((j : ℕ) → j < length s → ¬ (slice_index s j == e ≡ true)) → has e s ≡ false
free_of e [] h = refl
free_of e (x ∷ s) h = elim (cases_Bool (x == e)) [
  | inl t ↦ absurd (h 0 (omega arith) t)
  | inr f ↦ rw f (free_of e s (λ j below. h (suc j) (omega (arith, below))))
]

pub free_before : (e : ℕ) (s : List ℕ) (at : ℕ) → IsFirstByte (is_byte e) s (Some at) → has e (take at s) ≡ false
free_before e s at h =
    free_of e (take at s) (λ j below t.
    let within : j < at = grind (arith, common_steps, below) in
    h.0.before j (omega arith) within (ap (λ (x : ℕ). x == e) (sym (get_or-take at s j 0 within)) ∙ t))

pub free_all : (e : ℕ) (s : List ℕ) → IsFirstByte (is_byte e) s None → has e s ≡ false
free_all e s h = free_of e s (λ j below. h j (omega arith) below)

pub whole_tail : (s : List ℕ) (n : ℕ) → take (length s - n) (drop n s) ≡ drop n s
whole_tail s n = grind (arith, common_steps)

pub found_parts : (e : ℕ) (s : List ℕ) (at : ℕ) → IsFirstByte (is_byte e) s (Some at) → s ≡ take at s ++ e ∷ drop (at + 1) s
found_parts e s at h =
    let within : at < length s = h.0.high in let is : slice_index s at ≡ e = grind (arith, nat_tests, h.1) in
    sym (take-append-drop at s) ∙ ap (λ (z : List ℕ). take at s ++ z) (drop-cons s at 0 within ∙ ap (λ (x : ℕ). x ∷ drop (suc at) s) is ∙ ap (λ (n : ℕ). e ∷ drop n s) (sym (add-one at)))

-- ---- lines

long_message : (l : List ℕ) → 65536 < length l → message_of l ≡ Message.Line (Fault TooMuchData)
long_message l long =
    let six : bytes_eq l (codes "!POWER") ≡ true → length l ≡ 6 = λ same. ap length ((bytes_eq-Decides l (codes "!POWER")).0 same) in grind (arith, nat_tests, long, six)

over : (p input : List ℕ) → has 10 p ≡ false → 65536 < length p → messages (p ++ input) ≡ Message.Line (Fault TooMuchData) ∷ messages (after_part 10 input)
over [] input h long = absurd (omega (arith, long))
over (x ∷ p) input h long =
    let l = (x ∷ p) ++ first_part 10 input in
    let longer : 65536 < length l = grind (arith, common_steps, long) in
    ap (map message_of) (parts_begun 10 x p input h) ∙ ap (λ (m : Message). m ∷ messages (after_part 10 input)) (long_message l longer)

has_none_take : (e n : ℕ) (p : List ℕ) → has e p ≡ false → has e (take n p) ≡ false
has_none_take e zero p h = refl
has_none_take e (suc n) [] h = refl
has_none_take e (suc n) (x ∷ p) h = grind (arith, has_none e x p h, has_none_take e n p (has_none e x p h).1)

-- a part of which not more is kept than a line that is too long needs
pub kept_none : (line part : List ℕ) (n : ℕ) → has 10 line ≡ false → has 10 part ≡ false → has 10 (line ++ take n part) ≡ false
kept_none line part n p q = has_none_append 10 line (take n part) p (has_none_take 10 n part q)

pub kept_alike : (line part input : List ℕ) (n : ℕ) → has 10 line ≡ false → has 10 part ≡ false → (n ≡ length part) ⊎ (65536 < length line + n) → n ≤ length part
    → messages (line ++ (part ++ input)) ≡ messages ((line ++ take n part) ++ input)
kept_alike line part input n p q (inl all) le =
    let whole : take n part ≡ part = grind (arith, common_steps, all) in
    ap messages (sym (append_assoc line part input)) ∙ ap (λ (z : List ℕ). messages ((line ++ z) ++ input)) (sym whole)
kept_alike line part input n p q (inr long) le =
    let long-all : 65536 < length (line ++ part) = grind (arith, common_steps, long, le) in let long-kept : 65536 < length (line ++ take n part) = grind (arith, common_steps, long, le) in
    ap messages (sym (append_assoc line part input)) ∙ over (line ++ part) input (has_none_append 10 line part p q) long-all ∙ sym (over (line ++ take n part) input (kept_none line part n p q) long-kept)

-- the line that has begun ends
pub line_end : (line input : List ℕ) → has 10 line ≡ false → messages (line ++ 10 ∷ input) ≡ message_of line ∷ messages input
line_end line input h = ap (map message_of) (parts_at 10 line input h)

-- the last line of the input, without a line feed
pub line_last : (line : List ℕ) → (line ≡ [] → ⊥) → has 10 line ≡ false → messages line ≡ message_of line ∷ []
line_last [] begun free = absurd (begun refl)
line_last (x ∷ p) begun free = ap (map message_of) (parts_last 10 x p free)

-- ---- writes, one after another

fails_none : (a : Option ℕ) → Fails 0 a a
fails_none a = grind arith

fails_then : (m n : ℕ) (a b c : Option ℕ) → Fails m a b → Fails n b c → Fails (m + n) a c
fails_then m n a b c p q = grind arith

pub writes_none : (w : Written) → Writes w w []
writes_none w = record { bytes = Appends-nil w.bytes; failed = fails_none w.failed }

pub writes_then : (a b c : Written) (x y : List ℕ) → Writes a b x → Writes b c y → Writes a c (x ++ y)
writes_then a b c x y p q = record { bytes = Appends-trans a.bytes b.bytes c.bytes x y p.bytes q.bytes; failed = fails_then 0 0 a.failed b.failed c.failed p.failed q.failed }

-- ---- prefixes of a text that is written

pub starts_after : (t s rest : List ℕ) → StartsWith rest s → StartsWith (t ++ rest) (t ++ s)
starts_after t s rest h = ap (λ (n : ℕ). take n (t ++ rest)) (length-append t s) ∙ take-append-add t rest (length s) ∙ ap (λ (z : List ℕ). t ++ z) h

-- a write of the rest
pub put_step : (all : List ℕ) (at n : ℕ) (u v w : Written) → at ≤ length all → n ≤ length (take (length all - at) (drop at all))
    → Writes u v (take at all) → Writes v w (take n (take (length all - at) (drop at all))) → (at + n ≤ length all) × Writes u w (take (at + n) all)
put_step all at n u v w low bound p q =
    let joined : take (at + n) all ≡ take at all ++ take n (take (length all - at) (drop at all)) = take-add at n all ∙ ap (λ (z : List ℕ). take at all ++ take n z) (sym (whole_tail all at)) in
    let room : n ≤ length (drop at all) = subst (λ (z : List ℕ). n ≤ length z) (whole_tail all at) bound in
    (grind (arith, common_steps, low, room), subst (Writes u w) (sym joined) (writes_then u v w _ _ p q))

-- a write that fails, where something is still to be written
pub put_short : (all : List ℕ) (at : ℕ) (u v w : Written) → at < length all → Writes u v (take at all) → Appends v.bytes w.bytes [] → Fails 1 v.failed w.failed → WritesShort u w all
put_short all at u v w low p q f =
    let long : length (take at all) ≡ at = grind (arith, common_steps, low) in record {
      front = take at all;
      bytes = subst (Appends u.bytes w.bytes) (append-nil (take at all)) (Appends-trans u.bytes v.bytes w.bytes (take at all) [] p.bytes q);
      failed = fails_then 0 1 u.failed v.failed w.failed p.failed f;
      starts = ap (λ (n : ℕ). take n all) long;
      short = omega (arith, long, low);
    }

-- a write that reports an error appends nothing
pub kept_nothing : (a b : Option (List ℕ)) → Keeps a b → Appends a b []
kept_nothing None b p = tt
kept_nothing (Some x) None p = absurd p
kept_nothing (Some x) (Some y) p = p ∙ sym (append-nil x)

-- ---- the output, one part after another

pub longer : (text front more : List ℕ) → length front < length more → length (text ++ front) < length (text ++ more)
longer text front more less = grind (arith, common_steps, less)

-- a proper prefix of a text, written after another text
pub short_behind : (old mid new : Written) (first second : List ℕ) → Writes old mid first → WritesShort mid new second → WritesShort old new (first ++ second)
short_behind old mid new first second grows more = record {
  front = first ++ more.front;
  bytes = Appends-trans old.bytes mid.bytes new.bytes first more.front grows.bytes more.bytes;
  failed = fails_then 0 1 old.failed mid.failed new.failed grows.failed more.failed;
  starts = starts_after first more.front second more.starts;
  short = longer first more.front second more.short;
}

-- ---- parts of a text

pub says_none : (t : OutputState) → Says t t []
says_none t = ([], writes_none t.written, sym (append-nil t.gathered))

told_on : (a b c : OutputState) (m n : List ℕ) (says : Says a b m) → says.0 ++ (b.gathered ++ n) ≡ a.gathered ++ (m ++ n)
told_on a b c m n says = sym (append_assoc says.0 b.gathered n) ∙ ap (λ (z : List ℕ). z ++ n) says.2 ∙ append_assoc a.gathered m n

pub says_join : (a b c : OutputState) (m n : List ℕ) → Says a b m → Says b c n → Says a c (m ++ n)
says_join a b c m n p q = (p.0 ++ q.0, writes_then a.written b.written c.written p.0 q.0 p.1 q.1, append_assoc p.0 q.0 c.gathered ∙ ap (λ (z : List ℕ). p.0 ++ z) q.2 ∙ told_on a b c m n p)

pub short_after : (a b c : OutputState) (m n : List ℕ) → Says a b m → WritesShort b.written c.written (b.gathered ++ n) → WritesShort a.written c.written (a.gathered ++ (m ++ n))
short_after a b c m n p q = subst (WritesShort a.written c.written) (told_on a b c m n p) (short_behind a.written b.written c.written p.0 (b.gathered ++ n) p.1 q)

pub until_after : (end : Option RunCause) (a b c : OutputState) (m n : List ℕ) → Says a b m → SaysUntil end b c n → SaysUntil end a c (m ++ n)
until_after end a b c m n p q = record { whole = λ e. says_join a b c m n p (q.whole e); missing = λ e. short_after a b c m n p (q.missing e) }

-- an end at which the writer did not fail
pub until_said : (end : Option RunCause) (a b : OutputState) (m : List ℕ) → end ≢ Some Write → Says a b m → SaysUntil end a b m
until_said end a b m own p = grind arith

pub until_none : (end : Option RunCause) (t : OutputState) → end ≢ Some Write → SaysUntil end t t []
until_none end t own = until_said end t t [] own (says_none t)

-- what is missing of a text is also missing of a longer text
pub short_more : (old new : Written) (text more : List ℕ) → WritesShort old new text → WritesShort old new (text ++ more)
short_more old new text more short = record {
  front = short.front;
  bytes = short.bytes;
  failed = short.failed;
  starts = let less = short.short in take-append-le (length short.front) text more (omega (arith, less)) ∙ short.starts;
  short = let less = short.short in let long = length-append text more in omega (arith, less, long);
}

-- the rest of a text is buffered after the output, up to a fault
pub until_rest : (end : Option RunCause) (a b c : OutputState) (m rest : List ℕ) → Says a b m → SaysUntil end b c [] → SaysUntil end a (held c.written (c.gathered ++ rest)) (m ++ rest)
until_rest end a b c m rest p q = record {
  whole = λ e. says_join a b (held c.written (c.gathered ++ rest)) m rest p (says_join b c (held c.written (c.gathered ++ rest)) [] rest (q.whole e) ([], writes_none c.written, refl));
  missing = λ e. short_after a b (held c.written (c.gathered ++ rest)) m rest p (short_more b.written c.written b.gathered rest (subst (WritesShort b.written c.written) (append-nil b.gathered) (q.missing e)));
}

-- ---- what is not written

-- no line has begun
pub told_alone : (output : List ℕ) (t : Text) → t ≡ nothing → output ++ t.rest ≡ output
told_alone output t fresh = ap (λ (z : Text). output ++ z.rest) fresh ∙ append-nil output

pub none_told : (output : List ℕ) (t : Text) → output ≡ [] → t ≡ nothing → output ++ t.rest ≡ []
none_told output t none fresh = told_alone output t fresh ∙ none
