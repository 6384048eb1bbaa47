-- Headers: what their scan accepts is a header, every header is accepted, and the parts are found.
use Rattle.std.proofs.Common.{◌≡◌, ℕ, ◌==◌, ◌&&◌, Bool, true, false, List, [], ◌∷◌, ◌++◌, refl, sym, ap, ◌∙◌, subst, arith, append_assoc, inl, inr, ◌-◌, not, length, take, slice_index, suc, length-append}
use Rattle.std.proofs.lemmas.Bool.{not-true, eqb-true, and_parts, cases_Bool}
use Rattle.std.proofs.lemmas.Bool.Decides.{nat_tests}
use Rattle.psu_lex.specs.Bytes.{is_letter}
use Rattle.psu_lex.specs.Syntax.{is_name_byte, all_name, is_node, all_nodes, behind, ask_text, mark_text, HeaderParts, IsHeader, SpellsHeader, header_text, path_text}
use Rattle.psu_lex.specs.declared.unit.HeaderMark.{HeaderMark}
use Rattle.psu_lex.specs.declared.unit.HeaderMark.TheVariants.{Star, Colon, Bare}
use Rattle.psu_lex.specs.SyntaxScan.{is_empty, joins, is_part, is_path, is_header, mark_of, behind_mark, ends_asking, without_ask}
use Rattle.psu_lex.specs.NumberScan.{run, left}
use Rattle.psu_lex.proofs.Runs.{same_head, same_tail, both, every, leads, run_at, left_at, every_head, every_tail, every_append, every_more}
use Rattle.std.proofs.lemmas.List.{append-nil}
use Rattle.std.proofs.Math.Seq.{take-append_seam}
use Rattle.psu_lex.specs.Shown.{ShowsHeader}
use Rattle.psu_lex.specs.declared.unit.UnitHeader as rust
use Rattle.psu_lex.proofs.WrittenData.{node_every}

-- the rest of a path whose first node has begun (true), or has not (false)
abbrev Rest : Bool → Bool → List ℕ → Type 0
Rest several true text =
    (word : List ℕ) × (nodes : List (List ℕ)) × (asks : Bool) × (all_name word ≡ true) × (all_nodes nodes ≡ true) × (several ≡ false → nodes ≡ []) × (text ≡ word ++ (behind nodes ++ ask_text asks))
Rest several false text =
    (node : List ℕ) × (nodes : List (List ℕ)) × (asks : Bool) × (is_node node ≡ true) × (all_nodes nodes ≡ true) × (several ≡ false → nodes ≡ []) × (text ≡ node ++ (behind nodes ++ ask_text asks))

-- ---- what is accepted is a path

empty_is : (xs : List ℕ) → is_empty xs ≡ true → xs ≡ []
empty_is [] h = refl
empty_is (x ∷ xs) h = absurd (cc (h))

with_question : (several begun : Bool) (x : ℕ) (xs : List ℕ) → x ≡ 63 → (begun && is_empty xs) ≡ true → Rest several begun (x ∷ xs)
with_question several true x xs e h = ([], [], true, refl, refl, (λ f. refl), ap (λ (z : ℕ). z ∷ xs) e ∙ ap (λ (z : List ℕ). 63 ∷ z) (empty_is xs h))
with_question several false x xs e h = absurd (cc (h))

joined : (several begun : Bool) (x : ℕ) (xs : List ℕ) → joins begun several x ≡ true → Rest several false xs → Rest several begun (x ∷ xs)
joined true true x xs h (node, nodes, asks, n, ns, one, e) =
    ([], node ∷ nodes, asks, refl, rw n ns, (λ f. absurd (cc (f))), ap (λ (z : ℕ). z ∷ xs) (eqb-true x 58 h) ∙ ap (λ (z : List ℕ). 58 ∷ z) (e ∙ sym (append_assoc node (behind nodes) (ask_text asks))))
joined true false x xs h r = absurd (cc (h))
joined false true x xs h r = absurd (cc (h))
joined false false x xs h r = absurd (cc (h))

named : (several begun : Bool) (x : ℕ) (xs : List ℕ) → is_part begun x ≡ true → Rest several true xs → Rest several begun (x ∷ xs)
named several true x xs h (word, nodes, asks, w, ns, one, e) = (x ∷ word, nodes, asks, rw h w, ns, one, ap (λ (z : List ℕ). x ∷ z) e)
named several false x xs h (word, nodes, asks, w, ns, one, e) = (x ∷ word, nodes, asks, rw h w, ns, one, ap (λ (z : List ℕ). x ∷ z) e)

path_out : (several begun : Bool) (text : List ℕ) → is_path several begun text ≡ true → Rest several begun text
path_out several true [] h = ([], [], false, refl, refl, (λ f. refl), refl)
path_out several false [] h = absurd (cc (h))
path_out several begun (x ∷ xs) h = elim (cases_Bool (x == 63)) [
  | inl t ↦ with_question several begun x xs (eqb-true x 63 t) (rw t at h)
  | inr f ↦ elim (cases_Bool (joins begun several x)) [
    | inl j ↦ joined several begun x xs j (path_out several false xs (rw (f, j) at h))
    | inr g ↦ elim (cases_Bool (is_part begun x)) [
      | inl p ↦ named several begun x xs p (path_out several true xs (rw (f, g, p) at h))
      | inr q ↦ absurd (cc (rw (f, g, q) at h))
    ]
  ]
]

-- ---- every path is accepted

pub name_plain : (x : ℕ) → is_name_byte x ≡ true → ((x == 63) ≡ false) × ((x == 58) ≡ false)
name_plain x h = (grind (arith, nat_tests, h), grind (arith, nat_tests, h))

pub letter_plain : (x : ℕ) → is_letter x ≡ true → (x == 63) ≡ false
letter_plain x h = grind (arith, nat_tests, h)

pub no_join : (several : Bool) (x : ℕ) → (x == 58) ≡ false → joins true several x ≡ false
no_join true x h = h
no_join false x h = refl

over_word : (several : Bool) (word rest : List ℕ) → all_name word ≡ true → is_path several true (word ++ rest) ≡ is_path several true rest
over_word several [] rest h = refl
over_word several (x ∷ word) rest h =
    let parts = and_parts (is_name_byte x) (all_name word) h in
    let plain = name_plain x parts.0 in
    rw (plain.0, no_join several x plain.1, parts.0) (over_word several word rest parts.1)

from_node : (several : Bool) (node rest : List ℕ) → is_node node ≡ true → is_path several false (node ++ rest) ≡ is_path several true rest
from_node several [] rest h = absurd (cc (h))
from_node several (x ∷ node) rest h =
    let parts = and_parts (is_letter x) (all_name node) h in
    rw (letter_plain x parts.0, parts.0) (over_word several node rest parts.1)

at_end : (several asks : Bool) → is_path several true (ask_text asks) ≡ true
at_end several true = refl
at_end several false = refl

over_nodes : (several asks : Bool) (nodes : List (List ℕ)) → all_nodes nodes ≡ true → (several ≡ false → nodes ≡ []) → is_path several true (behind nodes ++ ask_text asks) ≡ true
over_nodes several asks [] h one = at_end several asks
over_nodes false asks (n ∷ ns) h one = absurd (cc (one refl))
over_nodes true asks (n ∷ ns) h one =
    let parts = and_parts (is_node n) (all_nodes ns) h in
    ap (is_path true false) (append_assoc n (behind ns) (ask_text asks)) ∙ from_node true n (behind ns ++ ask_text asks) parts.0 ∙ over_nodes true asks ns parts.1 (λ f. absurd (cc (f)))

path_in : (several asks : Bool) (node : List ℕ) (nodes : List (List ℕ)) → is_node node ≡ true → all_nodes nodes ≡ true → (several ≡ false → nodes ≡ [])
    → is_path several false (node ++ (behind nodes ++ ask_text asks)) ≡ true
path_in several asks node nodes n ns one = from_node several node (behind nodes ++ ask_text asks) n ∙ over_nodes several asks nodes ns one

-- ---- headers

pub header_out : (text : List ℕ) → is_header text ≡ true → SpellsHeader text
header_out [] h = absurd (cc (h))
header_out (x ∷ xs) h = elim (cases_Bool (x == 42)) [
  | inl t ↦
      let r = path_out false false xs (rw t at h) in (
        record { mark = Star; node = r.0; nodes = r.1; asks = r.2 },
        record { node = r.3; nodes = r.4; common = λ e. r.5 refl },
        ap (λ (z : ℕ). z ∷ xs) (eqb-true x 42 t) ∙ ap (λ (z : List ℕ). 42 ∷ z) r.6,
      )
  | inr f ↦ elim (cases_Bool (x == 58)) [
    | inl t ↦
        let r = path_out true false xs (rw (f, t) at h) in (
          record { mark = Colon; node = r.0; nodes = r.1; asks = r.2 },
          record { node = r.3; nodes = r.4; common = λ e. absurd (cc (e)) },
          ap (λ (z : ℕ). z ∷ xs) (eqb-true x 58 t) ∙ ap (λ (z : List ℕ). 58 ∷ z) r.6,
        )
    | inr g ↦
        let r = path_out true false (x ∷ xs) (rw (f, g) at h) in
        (record { mark = Bare; node = r.0; nodes = r.1; asks = r.2 }, record { node = r.3; nodes = r.4; common = λ e. absurd (cc (e)) }, r.6)
  ]
]

bare_first : (x : ℕ) → is_letter x ≡ true → ((x == 42) ≡ false) × ((x == 58) ≡ false)
bare_first x h = (grind (arith, nat_tests, h), grind (arith, nat_tests, h))

bare_in : (node rest : List ℕ) → is_node node ≡ true → is_header (node ++ rest) ≡ is_path true false (node ++ rest)
bare_in [] rest h = absurd (cc (h))
bare_in (x ∷ node) rest h = let plain = bare_first x ((and_parts (is_letter x) (all_name node) h).0) in rw (plain.0, plain.1) refl

header_at : (mark : HeaderMark) (asks : Bool) (node : List ℕ) (nodes : List (List ℕ)) → is_node node ≡ true → all_nodes nodes ≡ true → (mark ≡ Star → nodes ≡ [])
    → is_header (mark_text mark ++ (node ++ (behind nodes ++ ask_text asks))) ≡ true
header_at Star asks node nodes n ns one = path_in false asks node nodes n ns (λ f. one refl)
header_at Colon asks node nodes n ns one = path_in true asks node nodes n ns (λ f. absurd (cc (f)))
header_at Bare asks node nodes n ns one = bare_in node (behind nodes ++ ask_text asks) n ∙ path_in true asks node nodes n ns (λ f. absurd (cc (f)))

pub no_header : (text : List ℕ) → is_header text ≡ false → SpellsHeader text → ⊥
no_header text f (h, is, e) = both (is_header text) (ap is_header e ∙ header_at h.mark h.asks h.node h.nodes is.node is.nodes is.common) f

-- ---- one header

-- the text after a node does not begin with a byte of a node
behind_leads : (nodes : List (List ℕ)) (asks : Bool) → leads is_name_byte (behind nodes ++ ask_text asks) ≡ false
behind_leads [] true = refl
behind_leads [] false = refl
behind_leads (n ∷ ns) asks = refl

same_node : (n m x y : List ℕ) → is_node n ≡ true → is_node m ≡ true → leads is_name_byte x ≡ false → leads is_name_byte y ≡ false → n ++ x ≡ m ++ y → (n ≡ m) × (x ≡ y)
same_node n m x y h k f g e = (
  sym (run_at is_name_byte n x (node_every n h) f) ∙ ap (run is_name_byte) e ∙ run_at is_name_byte m y (node_every m k) g,
  sym (left_at is_name_byte n x (node_every n h) f) ∙ ap (left is_name_byte) e ∙ left_at is_name_byte m y (node_every m k) g,
)

same_asks : (a b : Bool) → ask_text a ≡ ask_text b → a ≡ b
same_asks true true e = refl
same_asks true false e = absurd (cc (e))
same_asks false true e = absurd (cc (e))
same_asks false false e = refl

no_asks : (a : Bool) (x : List ℕ) → ask_text a ≡ 58 ∷ x → ⊥
no_asks true x e = omega (arith, same_head 63 58 _ _ e)
no_asks false x e = absurd (cc (e))

same_behind : (ns ms : List (List ℕ)) (a b : Bool) → all_nodes ns ≡ true → all_nodes ms ≡ true → behind ns ++ ask_text a ≡ behind ms ++ ask_text b → (ns ≡ ms) × (a ≡ b)
same_behind [] [] a b h k e = (refl, same_asks a b e)
same_behind [] (m ∷ ms) a b h k e = absurd (no_asks a _ e)
same_behind (n ∷ ns) [] a b h k e = absurd (no_asks b _ (sym e))
same_behind (n ∷ ns) (m ∷ ms) a b h k e =
    let p = and_parts (is_node n) (all_nodes ns) h in
    let q = and_parts (is_node m) (all_nodes ms) k in
    let front = same_node n m (behind ns ++ ask_text a) (behind ms ++ ask_text b) p.0 q.0 (behind_leads ns a) (behind_leads ms b)
    (sym (append_assoc n (behind ns) (ask_text a)) ∙ same_tail 58 58 _ _ e ∙ append_assoc m (behind ms) (ask_text b)) in
    let later = same_behind ns ms a b p.1 q.1 front.1 in
    (cc (front.0, later.0), later.1)

pub mark_is : (mark : HeaderMark) (node rest : List ℕ) → is_node node ≡ true → mark_of (mark_text mark ++ (node ++ rest)) ≡ mark
mark_is Star node rest h = refl
mark_is Colon node rest h = refl
mark_is Bare [] rest h = absurd (cc (h))
mark_is Bare (x ∷ node) rest h = let plain = bare_first x ((and_parts (is_letter x) (all_name node) h).0) in rw (plain.0, plain.1) refl

behind_is : (mark : HeaderMark) (text : List ℕ) → behind_mark mark (mark_text mark ++ text) ≡ text
behind_is Star text = refl
behind_is Colon text = refl
behind_is Bare text = refl

abbrev made : HeaderMark → List ℕ → List (List ℕ) → Bool → HeaderParts
made mark node nodes asks = record { mark = mark; node = node; nodes = nodes; asks = asks }

pub one_header : (h g : HeaderParts) → IsHeader h → IsHeader g → header_text h ≡ header_text g → h ≡ g
one_header h g p q e =
    let hs = behind h.nodes ++ ask_text h.asks in
    let gs = behind g.nodes ++ ask_text g.asks in
    let mark : h.mark ≡ g.mark = sym (mark_is h.mark h.node hs p.node) ∙ ap mark_of e ∙ mark_is g.mark g.node gs q.node in
    let body : h.node ++ hs ≡ g.node ++ gs
    = sym (behind_is g.mark (h.node ++ hs)) ∙ ap (behind_mark g.mark) (ap (λ (z : HeaderMark). mark_text z ++ (h.node ++ hs)) (sym mark) ∙ e) ∙ behind_is g.mark (g.node ++ gs) in
    let front = same_node h.node g.node hs gs p.node q.node (behind_leads h.nodes h.asks) (behind_leads g.nodes g.asks) body in
    let later = same_behind h.nodes g.nodes h.asks g.asks p.nodes q.nodes front.1 in
    ap (λ (z : HeaderMark). made z h.node h.nodes h.asks) mark ∙ ap (λ (z : List ℕ). made g.mark z h.nodes h.asks) front.0
    ∙ ap (λ (z : List (List ℕ)). made g.mark g.node z h.asks) later.0 ∙ ap (made g.mark g.node g.nodes) later.1

-- ---- the last byte

pub last_asks : (text : List ℕ) → (slice_index text (length text - 1) == 63) ≡ ends_asking text
last_asks [] = refl
last_asks (x ∷ []) = refl
last_asks (x ∷ y ∷ xs) =
    let later : length (x ∷ y ∷ xs) - 1 ≡ suc (length (y ∷ xs) - 1) = omega arith in
    rw later (last_asks (y ∷ xs))

abbrev is_plain : ℕ → Bool
is_plain b = not (b == 63)

name_unasked : (x : ℕ) → is_name_byte x ≡ true → is_plain x ≡ true
name_unasked x h = grind (arith, nat_tests, h)

plain_end : (xs : List ℕ) → every is_plain xs ≡ true → ends_asking xs ≡ false
plain_end [] h = refl
plain_end (x ∷ []) h = not-true (x == 63) (every_head is_plain x [] h)
plain_end (x ∷ y ∷ xs) h = plain_end (y ∷ xs) (every_tail is_plain x (y ∷ xs) h)

asking_end : (xs : List ℕ) → ends_asking (xs ++ 63 ∷ []) ≡ true
asking_end [] = refl
asking_end (x ∷ []) = refl
asking_end (x ∷ y ∷ xs) = asking_end (y ∷ xs)

-- ---- the nodes

pub behind_every : (test : ℕ → Bool) (nodes : List (List ℕ)) → test 58 ≡ true → ((x : ℕ) → is_name_byte x ≡ true → test x ≡ true) → all_nodes nodes ≡ true → every test (behind nodes) ≡ true
behind_every test [] c f h = refl
behind_every test (n ∷ ns) c f h =
    let parts = and_parts (is_node n) (all_nodes ns) h in
    rw c (every_append test n (behind ns) (every_more is_name_byte test n f (node_every n parts.0)) (behind_every test ns c f parts.1))

-- a test that every byte of a name, and `*`, `:` and `?` pass, is passed by every byte of a header
ask_every : (test : ℕ → Bool) (asks : Bool) → test 63 ≡ true → every test (ask_text asks) ≡ true
ask_every test true a = rw a refl
ask_every test false a = refl

mark_every : (test : ℕ → Bool) (mark : HeaderMark) → test 42 ≡ true → test 58 ≡ true → every test (mark_text mark) ≡ true
mark_every test Star s c = rw s refl
mark_every test Colon s c = rw c refl
mark_every test Bare s c = refl

pub spelled_every : (test : ℕ → Bool) → test 42 ≡ true → test 58 ≡ true → test 63 ≡ true → ((x : ℕ) → is_name_byte x ≡ true → test x ≡ true) → (text : List ℕ) → SpellsHeader text → every test text ≡ true
spelled_every test s c a f text (h, is, e) =
    subst (λ (z : List ℕ). every test z ≡ true) (sym e)
    (every_append test (mark_text h.mark) (h.node ++ (behind h.nodes ++ ask_text h.asks)) (mark_every test h.mark s c)
    (every_append test h.node (behind h.nodes ++ ask_text h.asks) (every_more is_name_byte test h.node f (node_every h.node is.node))
    (every_append test (behind h.nodes) (ask_text h.asks) (behind_every test h.nodes c f is.nodes) (ask_every test h.asks a))))

path_plain : (h : HeaderParts) → IsHeader h → every is_plain (path_text h) ≡ true
path_plain h is =
    every_append is_plain h.node (behind h.nodes) (every_more is_name_byte is_plain h.node name_unasked (node_every h.node is.node)) (behind_every is_plain h.nodes refl name_unasked is.nodes)

asked_end : (path : List ℕ) (asks : Bool) → every is_plain path ≡ true → ends_asking (path ++ ask_text asks) ≡ asks
asked_end path true h = asking_end path
asked_end path false h = ap ends_asking (append-nil path) ∙ plain_end path h

cut_end : (path : List ℕ) (asks : Bool) → without_ask asks (path ++ ask_text asks) ≡ path
cut_end path true =
    let n : length (path ++ 63 ∷ []) - 1 ≡ length path = omega (arith, length-append path (63 ∷ [])) in
    ap (λ (k : ℕ). take k (path ++ 63 ∷ [])) n ∙ take-append_seam path (63 ∷ [])
cut_end path false = append-nil path

-- ---- in the form of the code

pub parts_shown : (shown : rust.UnitHeader) (text body : List ℕ) (mark : HeaderMark) (asks : Bool) (h : HeaderParts) → IsHeader h → text ≡ header_text h → mark ≡ mark_of text → body ≡ behind_mark mark text
    → asks ≡ ends_asking body → shown.text.now ≡ text → shown.mark ≡ mark → shown.nodes.now ≡ without_ask asks body → shown.asks ≡ asks → ShowsHeader shown h
parts_shown shown text body mark asks h is e m b a st sm sn sa =
    let path = path_text h in
    let rest = path ++ ask_text h.asks in
    let whole : text ≡ mark_text h.mark ++ rest = e ∙ ap (λ (z : List ℕ). mark_text h.mark ++ z) (sym (append_assoc h.node (behind h.nodes) (ask_text h.asks))) in
    let marked : mark ≡ h.mark = m ∙ ap mark_of e ∙ mark_is h.mark h.node (behind h.nodes ++ ask_text h.asks) is.node in
    let found : body ≡ rest = b ∙ ap (λ (z : HeaderMark). behind_mark z text) marked ∙ ap (behind_mark h.mark) whole ∙ behind_is h.mark rest in
    let asking : asks ≡ h.asks = a ∙ ap ends_asking found ∙ asked_end path h.asks (path_plain h is) in
    let cut : without_ask asks body ≡ path = ap (λ (z : Bool). without_ask z body) asking ∙ ap (without_ask h.asks) found ∙ cut_end path h.asks in
    record { text = st ∙ e; mark = sm ∙ marked; nodes = sn ∙ cut; asks = sa ∙ asking }
