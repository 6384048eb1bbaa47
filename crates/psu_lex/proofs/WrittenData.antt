-- Numbers and words: the text up to a `,`, without trailing white space.
use Rattle.std.proofs.Common.{◌≡◌, ℕ, zero, suc, ◌-◌, ◌<◌, ◌≤◌, ◌&&◌, not, Bool, true, false, List, [], ◌∷◌, ◌++◌, length, take, drop, refl, sym, ap, ◌∙◌, subst, arith, append_assoc, inl, inr, Option, Some, None, slice_index, take_all, drop-cons, unwrap_or}
use Rattle.std.proofs.lemmas.Bool.{and_parts, cases_Bool}
use Rattle.std.proofs.lemmas.Bool.Decides.{nat_tests}
use Rattle.std.proofs.lemmas.List.{take-append-drop}
use Rattle.std.proofs.lemmas.Grind.{common_steps}
use Rattle.std.proofs.Math.Seq.{drop-append_seam}
use Rattle.memchr.specs.Find.{IsFirstByte, is_byte}
use Rattle.psu_lex.specs.Bytes.{is_white, is_digit, is_letter, all_white, opens}
use Rattle.psu_lex.specs.Number.{Number, IsNumber, Sign, Exponent, ExponentHolds, number_text, sign_text, fraction_text, fraction_digits, exponent_text, mantissa}
use Rattle.psu_lex.specs.Number.Sign.{Plus, Minus, Unsigned}
use Rattle.psu_lex.specs.NumberScan.{run, left, is_number}
use Rattle.psu_lex.specs.Scan.{has}
use Rattle.psu_lex.specs.Syntax.{is_name_byte, all_name, is_node, ends_in_white}
use Rattle.psu_lex.specs.SyntaxScan.{is_high, is_uncut, is_parted, put_dark, trimmed, written, after_datum}
use Rattle.psu_lex.specs.declared.data.DatumClass.TheVariants.{Numeric, Character}
use Rattle.psu_lex.proofs.Runs.{run_white, every, leads, digits_every, white_every, letters_every, every_head, every_tail, every_append, every_more, run_at, run_all, run_left}
use Rattle.psu_lex.proofs.Searches.{has_head, has_tail, free_before, free_all}
use Rattle.psu_lex.proofs.NumberFound.{digits_parts, number_out}

-- ---- the last byte

trimmed_white : (w : List ℕ) → all_white w ≡ true → trimmed w ≡ []
trimmed_white [] h = refl
trimmed_white (x ∷ w) h = let p = and_parts (is_white x) (all_white w) h in rw (trimmed_white w p.1, p.0) refl

-- trimming gives the text, whatever white space follows it
trimmed_is : (a w : List ℕ) → all_white w ≡ true → ends_in_white a ≡ false → trimmed (a ++ w) ≡ a
trimmed_is [] w h d = trimmed_white w h
trimmed_is (x ∷ []) w h d = rw (trimmed_white w h, d) refl
trimmed_is (x ∷ y ∷ a) w h d = ap (put_dark x) (trimmed_is (y ∷ a) w h d)

-- the text, and the white space that is cut off
record Trimmed (xs text : List ℕ) : Type 0 where
  space : List ℕ
  whole : xs ≡ text ++ space
  dark : ends_in_white text ≡ false

trimmed_more : (x : ℕ) (xs text : List ℕ) → Trimmed xs text → Trimmed (x ∷ xs) (put_dark x text)
trimmed_more x xs [] t = elim (cases_Bool (is_white x)) [
  | inl h ↦ rw h (record { space = x ∷ xs; whole = refl; dark = refl })
  | inr f ↦ rw f (record { space = t.space; whole = ap (λ (z : List ℕ). x ∷ z) t.whole; dark = f })
]
trimmed_more x xs (y ∷ text) t = record { space = t.space; whole = ap (λ (z : List ℕ). x ∷ z) t.whole; dark = t.dark }

trimmed_parts : (xs : List ℕ) → Trimmed xs (trimmed xs)
trimmed_parts [] = record { space = []; whole = refl; dark = refl }
trimmed_parts (x ∷ xs) = trimmed_more x xs (trimmed xs) (trimmed_parts xs)

last_dark : (s : List ℕ) (m : ℕ) → m < length s → is_white (slice_index s m) ≡ false → ends_in_white (take (suc m) s) ≡ false
last_dark [] m within h = absurd (omega (arith, within))
last_dark (x ∷ s) zero within h = h
last_dark (x ∷ []) (suc m) within h = absurd (omega (arith, within))
last_dark (x ∷ y ∷ s) (suc m) within h = last_dark (y ∷ s) m (omega (arith, within)) h

-- ---- up to a `,`

-- not `,`, and nothing that opens a string or a block or is 127 or more
abbrev pub is_inner : ℕ → Bool
is_inner b = is_uncut b && not (opens b) && not (is_high b)

white_inner : (x : ℕ) → is_white x ≡ true → is_inner x ≡ true
white_inner x h = grind (arith, nat_tests, h)

digit_inner : (x : ℕ) → is_digit x ≡ true → is_inner x ≡ true
digit_inner x h = grind (arith, nat_tests, h)

pub name_inner : (x : ℕ) → is_name_byte x ≡ true → is_inner x ≡ true
name_inner x h = grind (arith, nat_tests, h)

every_uncut : (xs : List ℕ) → every is_inner xs ≡ true → every is_uncut xs ≡ true
every_uncut xs h = every_more is_inner is_uncut xs (λ x h. grind (arith, nat_tests, h)) h

name_every : (xs : List ℕ) → all_name xs ≡ every is_name_byte xs
name_every [] = refl
name_every (x ∷ xs) = ap (λ (z : Bool). is_name_byte x && z) (name_every xs)

pub node_every : (text : List ℕ) → is_node text ≡ true → every is_name_byte text ≡ true
node_every [] h = refl
node_every (x ∷ text) h =
    let l : is_letter x ≡ true = grind (arith, common_steps, h) in
    let later : all_name text ≡ true = grind (arith, common_steps, h) in
    rw l (sym (name_every text) ∙ later)

pub node_inner : (text : List ℕ) → is_node text ≡ true → every is_inner text ≡ true
node_inner text h = every_more is_name_byte is_inner text name_inner (node_every text h)

name_end : (text : List ℕ) → every is_name_byte text ≡ true → ends_in_white text ≡ false
name_end [] h = refl
name_end (x ∷ []) h = grind (arith, nat_tests, every_head is_name_byte x [] h)
name_end (x ∷ y ∷ text) h = name_end (y ∷ text) (every_tail is_name_byte x (y ∷ text) h)

node_end : (text : List ℕ) → is_node text ≡ true → ends_in_white text ≡ false
node_end text h = name_end text (node_every text h)

sign_inner : (s : Sign) → every is_inner (sign_text s) ≡ true
sign_inner Plus = refl
sign_inner Minus = refl
sign_inner Unsigned = refl

fraction_inner : (fraction : Option (List ℕ)) → every is_digit (fraction_digits fraction) ≡ true → every is_inner (fraction_text fraction) ≡ true
fraction_inner None h = refl
fraction_inner (Some ds) h = every_more is_digit is_inner ds digit_inner h

pub whites : (xs : List ℕ) → all_white xs ≡ true → every is_inner xs ≡ true
whites xs h = every_more is_white is_inner xs white_inner (sym (white_every xs) ∙ h)

exponent_inner : (exponent : Option Exponent) → ExponentHolds exponent → every is_inner (exponent_text exponent) ≡ true
exponent_inner None h = refl
exponent_inner (Some e) h =
    let digits = every_more is_digit is_inner e.digits digit_inner (sym (digits_every e.digits) ∙ h.3) in
    let signed = every_append is_inner (sign_text e.sign) e.digits (sign_inner e.sign) digits in
    let after = every_append is_inner e.after (sign_text e.sign ++ e.digits) (whites e.after h.2) signed in
    let marked : every is_inner (e.letter ∷ (e.after ++ (sign_text e.sign ++ e.digits))) ≡ true = (let mark : is_inner e.letter ≡ true = grind (arith, nat_tests, h.1) in rw mark after) in
    every_append is_inner e.before (e.letter ∷ (e.after ++ (sign_text e.sign ++ e.digits))) (whites e.before h.0) marked

pub number_inner : (n : Number) → IsNumber n → every is_inner (number_text n) ≡ true
number_inner n h =
    let digits = digits_parts n.whole (fraction_digits n.fraction) (sym (digits_every (mantissa n)) ∙ h.digits) in
    let r1 = every_append is_inner n.suffix n.rest (every_more is_letter is_inner n.suffix (λ x h. grind (arith, nat_tests, h)) (sym (letters_every n.suffix) ∙ h.suffix)) (whites n.rest h.rest) in
    let r2 = every_append is_inner n.gap (n.suffix ++ n.rest) (whites n.gap h.gap) r1 in
    let r3 = every_append is_inner (exponent_text n.exponent) (n.gap ++ (n.suffix ++ n.rest)) (exponent_inner n.exponent h.exponent) r2 in
    let r4 = every_append is_inner (fraction_text n.fraction) (exponent_text n.exponent ++ (n.gap ++ (n.suffix ++ n.rest))) (fraction_inner n.fraction digits.1) r3 in
    let r5 = every_append is_inner n.whole (fraction_text n.fraction ++ (exponent_text n.exponent ++ (n.gap ++ (n.suffix ++ n.rest)))) (every_more is_digit is_inner n.whole digit_inner digits.0) r4 in
    every_append is_inner (sign_text n.sign) (n.whole ++ (fraction_text n.fraction ++ (exponent_text n.exponent ++ (n.gap ++ (n.suffix ++ n.rest))))) (sign_inner n.sign) r5

parted_leads : (tail : List ℕ) → is_parted tail ≡ true → leads is_uncut tail ≡ false
parted_leads [] h = refl
parted_leads (x ∷ tail) h = rw h refl

-- a text without a `,`, followed by white space, is everything up to the `,`
uncut_run : (text next : List ℕ) → every is_uncut text ≡ true → is_parted (left is_white next) ≡ true → run is_uncut (text ++ next) ≡ text ++ run is_white next
uncut_run text next h p =
    let space = run is_white next in
    let tail = left is_white next in
    let whole : text ++ next ≡ (text ++ space) ++ tail = ap (λ (z : List ℕ). text ++ z) (sym (run_left is_white next)) ∙ sym (append_assoc text space tail) in
    ap (run is_uncut) whole ∙ run_at is_uncut (text ++ space) tail
    (every_append is_uncut text space h (every_uncut space (whites space (run_white next)))) (parted_leads tail p)

written_found : (body text next : List ℕ) → body ≡ text ++ next → every is_uncut text ≡ true → ends_in_white text ≡ false → is_parted (left is_white next) ≡ true
    → (written body ≡ text) × (drop (length (written body)) body ≡ next)
written_found body text next e u d p =
    let w : written body ≡ text = ap trimmed (ap (run is_uncut) e ∙ uncut_run text next u p) ∙ trimmed_is text (run is_white next) (run_white next) d in
    (w, rw (w, e) (drop-append_seam text next))

pub number_found : (body text next : List ℕ) (n : Number) → body ≡ text ++ next → IsNumber n → text ≡ number_text n → ends_in_white text ≡ false → is_parted (left is_white next) ≡ true
    → after_datum Numeric body ≡ Some next
number_found body text next n e h k d p =
    let w = written_found body text next e (subst (λ (z : List ℕ). every is_uncut z ≡ true) (sym k) (every_uncut (number_text n) (number_inner n h))) d p in
    let is : is_number (written body) ≡ true = ap is_number w.0 ∙ number_out text n h k in
    rw is (ap (λ (z : List ℕ). Some z) w.1)

pub word_found : (body text next : List ℕ) → body ≡ text ++ next → is_node text ≡ true → is_parted (left is_white next) ≡ true → after_datum Character body ≡ Some next
word_found body text next e h p =
    let w = written_found body text next e (every_uncut text (node_inner text h)) (node_end text h) p in
    let is : is_node (written body) ≡ true = ap is_node w.0 ∙ h in
    rw is (ap (λ (z : List ℕ). Some z) w.1)

-- the written text, and what follows it
pub written_whole : (body : List ℕ) → (body ≡ written body ++ drop (length (written body)) body) × (ends_in_white (written body) ≡ false)
written_whole body =
    let t = trimmed_parts (run is_uncut body) in
    let whole : body ≡ written body ++ (t.space ++ left is_uncut body)
    = sym (run_left is_uncut body) ∙ ap (λ (z : List ℕ). z ++ left is_uncut body) t.whole ∙ append_assoc (written body) t.space (left is_uncut body) in
    (whole ∙ ap (λ (z : List ℕ). written body ++ z) (sym (ap (drop (length (written body))) whole ∙ drop-append_seam (written body) (t.space ++ left is_uncut body))), t.dark)

-- where no byte is a `,`, each byte passes `is_uncut`
has_every : (xs : List ℕ) → has (is_byte 44) xs ≡ false → every is_uncut xs ≡ true
has_every [] h = refl
has_every (x ∷ xs) h = rw (has_head (is_byte 44) x xs h) (has_every xs (has_tail (is_byte 44) x xs h))

cut_leads : (body : List ℕ) (n : ℕ) → n < length body → is_byte 44 (slice_index body n) ≡ true → leads is_uncut (drop n body) ≡ false
cut_leads body n within h = rw (drop-cons body n 0 within) (rw h refl)

pub up_to_cut : (body : List ℕ) (r : Option ℕ) → IsFirstByte (is_byte 44) body r → run is_uncut body ≡ take (unwrap_or r (length body)) body
up_to_cut body None h = run_all is_uncut body (has_every body (free_all (is_byte 44) body h)) ∙ sym (take_all (length body) body (omega arith))
up_to_cut body (Some n) h =
    ap (run is_uncut) (sym (take-append-drop n body))
    ∙ run_at is_uncut (take n body) (drop n body) (has_every (take n body) (free_before (is_byte 44) body n h)) (cut_leads body n h.0.high h.1)

pub written_at : (body front : List ℕ) (m n : ℕ) → run is_uncut body ≡ take m body → front ≡ take m body → n ≤ length front → all_white (drop n front) ≡ true → ends_in_white (take n front) ≡ false
    → take n body ≡ written body
written_at body front m n r f le w d =
    let same : take n front ≡ take n body = grind (arith, common_steps, f, le) in
    sym same ∙ sym (trimmed_is (take n front) (drop n front) w d) ∙ ap trimmed (take-append-drop n front ∙ f ∙ sym r)

pub dark_at : (s : List ℕ) (end : ℕ) → 0 < end → end ≤ length s → is_white (slice_index s (end - 1)) ≡ false → ends_in_white (take end s) ≡ false
dark_at s zero some le h = absurd (omega (arith, some))
dark_at s (suc m) some le h =
    let e : suc m - 1 ≡ m = omega arith in
    last_dark s m (omega (arith, le)) (subst (λ (z : ℕ). is_white (slice_index s z) ≡ false) e h)
