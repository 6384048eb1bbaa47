-- Sessions with device clears.
use Rattle.std.proofs.Common.{◌≡◌, ℕ, suc, Bool, true, false, Option, Some, List, [], ◌∷◌, ◌++◌, length, refl, sym, ap, ◌∙◌, subst, inl, inr, nat_lt, arith, append_assoc, All}
use Rattle.std.specs.Prelude.{map, flat_map}
use Rattle.std.specs.List.{list_any}
use Rattle.std.proofs.lemmas.List.{append-nil, map-append}
use Rattle.std.proofs.lemmas.List.Elements.{filter-append}
use Rattle.psu_hislip.specs.Action.{Act}
use Rattle.psu_hislip.specs.Core.{Core, Outcome, row, is_begun, after_complete}
use Rattle.psu_hislip.specs.Runs.{Arrival, outcome, actions_of, core_after, received_type, begins_clear, is_complete, completes_clear, EndsComplete, executions, started}
use Rattle.psu_hislip.specs.Transmitted.{piece_in, SentTransmission, pieces_of, action_for, is_transmission, transmissions, text_of, text_kept, action_text, Stretch, IsStretch, run_of}
use Rattle.psu_hislip.specs.Transmitted.Piece.{More}
use Rattle.psu_hislip.specs.declared.side.Side.{Side}
use Rattle.psu_hislip.specs.declared.side.Side.TheVariants.{Sync}
use Rattle.psu_hislip.specs.declared.side.DeviceClear.{DeviceClear}
use Rattle.psu_hislip.specs.declared.side.DeviceClear.TheVariants.{Idle, InProgress, Early}
use Rattle.psu_hislip.specs.declared.message_type.MessageType.{MessageType}
use Rattle.psu_hislip.specs.declared.message_type.MessageType.TheVariants.{DeviceClearComplete}
use Rattle.psu_hislip.proofs.Runs.{ends_badly, not_failed, core_after-append}
use Rattle.psu_hislip.proofs.Clears.{InClear, is_early, clear_row, clear_begins, nothing_executed, remembers}
use Rattle.psu_hislip.proofs.Transmitted.{run_transmissions}
use Rattle.psu_hislip.proofs.Cases.{Cases, cases, is_good, erroneous}
use Rattle.psu_hislip.proofs.Cases.Cases.{Ended, Fails, Discarded, Erroneous, Row}

-- between two transmissions, with no device clear begun or remembered
pub record IsFresh (core : Core) : Type 0 where
  pub early : is_early core.clear ≡ false
  pub idle : is_begun core.clear ≡ false
  pub empty : core.transmission ≡ Some []

no_transmissions : (acts : List Act) → executions acts ≡ [] → transmissions acts ≡ []
no_transmissions [] e = refl
no_transmissions (Act.Send side bytes ∷ acts) e = no_transmissions acts e
no_transmissions (Act.Execute o bytes ∷ acts) e = absurd (cc)
no_transmissions (Act.TooMuch o ∷ acts) e = absurd (cc)
no_transmissions (Act.Trigger o ∷ acts) e = absurd (cc)
no_transmissions (Act.Delivered ∷ acts) e = no_transmissions acts e
no_transmissions (Act.Status d ∷ acts) e = no_transmissions acts e
no_transmissions (Act.Lock timeout string ∷ acts) e = no_transmissions acts e
no_transmissions (Act.Release ∷ acts) e = no_transmissions acts e
no_transmissions (Act.Info ∷ acts) e = no_transmissions acts e
no_transmissions (Act.Clear ∷ acts) e = no_transmissions acts e
no_transmissions (Act.Closed ∷ acts) e = no_transmissions acts e

-- # Runs end to end

actions-append : (core : Core) (xs ys : List Arrival) → actions_of core (xs ++ ys) ≡ actions_of core xs ++ actions_of (core_after core xs) ys
actions-append core [] ys = refl
actions-append core (x ∷ xs) ys =
    ap (λ (z : List Act). (outcome core x).actions ++ z) (actions-append (outcome core x).core xs ys)
    ∙ sym (append_assoc (outcome core x).actions (actions_of (outcome core x).core xs) (actions_of (core_after core (x ∷ xs)) ys))

both_asked : (core : Core) (xs ys : List Arrival) (a b : List Act) → transmissions (actions_of core xs) ≡ a → transmissions (actions_of (core_after core xs) ys) ≡ b
    → transmissions (actions_of core (xs ++ ys)) ≡ a ++ b
both_asked core xs ys a b e f =
    ap transmissions (actions-append core xs ys) ∙ filter-append is_transmission (actions_of core xs) (actions_of (core_after core xs) ys)
    ∙ ap (λ (z : List Act). z ++ transmissions (actions_of (core_after core xs) ys)) e ∙ ap (λ (z : List Act). a ++ z) f

-- # AsyncDeviceClear and DeviceClearComplete

clear_asks : (core : Core) (t : Arrival) → begins_clear t ≡ true → Cases core t.side t.message → transmissions (outcome core t).actions ≡ []
clear_asks core t b (Ended f o) = ap (λ (z : Outcome). transmissions z.actions) o
clear_asks core t b (Fails code f o) = ap (λ (z : Outcome). transmissions z.actions) o
clear_asks core t b (Discarded f d s c o) = ap (λ (z : Outcome). transmissions z.actions) o
clear_asks core t b (Erroneous code f n o) = ap (λ (z : Outcome). transmissions z.actions) o
clear_asks core t b (Row type h p f m i n k g o) = ap (λ (z : Outcome). transmissions z.actions) (o ∙ ap (λ z. row core z h p) (clear_row t type b i))

complete_type : (side : Side) (o : Option MessageType) → is_complete side o ≡ true → (is_good side o ≡ true) × (o ≡ Some DeviceClearComplete)
complete_type Sync (Some DeviceClearComplete) e = (refl, refl)
complete_type side o e = absurd (cc)

ended : (c : DeviceClear) → is_begun c ≡ true → (is_early (after_complete c) ≡ false) × (is_begun (after_complete c) ≡ false)
ended Idle e = absurd (cc)
ended InProgress e = (refl, refl)
ended Early e = absurd (cc)

clear_ends : (core : Core) (t : Arrival) → completes_clear t ≡ true → (outcome core t).core.failed ≡ false → InClear core → Cases core t.side t.message
    → IsFresh (outcome core t).core × (transmissions (outcome core t).actions ≡ [])
clear_ends core t c e begun (Ended f o) = absurd (ends_badly _ _ o f e)
clear_ends core t c e begun (Fails code f o) = absurd (ends_badly _ _ o refl e)
clear_ends core t c e begun (Discarded f d s n o) = absurd (cc)
clear_ends core t c e begun (Erroneous code f n o) = absurd (cc (erroneous t.side t.message code n, (complete_type t.side (received_type t.message) c).0))
clear_ends core t c e (inl failed) (Row type h p f m i n k g o) = absurd (cc)
clear_ends core t c e (inr begun) (Row type h p f m i n k g o) =
    let kind = (complete_type t.side (received_type t.message) c).1 in
    let same : type ≡ DeviceClearComplete = cc in
    let is : outcome core t ≡ row core DeviceClearComplete h p = o ∙ ap (λ z. row core z h p) same in
    let ends = ended core.clear begun.0 in (
      subst (λ (z : Outcome). IsFresh z.core) (sym is) (record { early = ends.0; idle = ends.1; empty = begun.1 }),
      ap (λ (z : Outcome). transmissions z.actions) is,
    )

-- # A stretch

not_early : (core : Core) (before : List Arrival) → IsFresh core → (EndsComplete before → ⊥) → (core_after core before).failed ≡ false → (b : Bool) → is_early (core_after core before).clear ≡ b
    → is_early (core_after core before).clear ≡ false
not_early core before fresh bare good true e = elim (remembers core before good e) [ inl w ↦ absurd (cc (w.0, fresh.early)) | inr w ↦ absurd (bare w) ]
not_early core before fresh bare good false e = e

stretch : (core : Core) (s : Stretch) → IsFresh core → IsStretch s → (core_after core (run_of s)).failed ≡ false
    → IsFresh (core_after core (run_of s)) × (transmissions (actions_of core (run_of s)) ≡ map (action_for core.clears) s.whole)
stretch core s fresh is good =
    let one = core_after core s.before in
    let two = (outcome one s.clear).core in
    let three = core_after two s.between in
    let all : core_after core (run_of s) ≡ (outcome three s.complete).core =
    core_after-append core s.before (s.clear ∷ (s.between ++ s.complete ∷ [])) ∙ core_after-append two s.between (s.complete ∷ []) in
    let good_end : (outcome three s.complete).core.failed ≡ false = ap (λ (z : Core). z.failed) (sym all) ∙ good in
    let good_three = not_failed three (s.complete ∷ []) good_end in
    let good_two = not_failed two s.between good_three in
    let good_one = not_failed one (s.clear ∷ []) good_two in
    let began = clear_begins one s.clear is.begins (not_early core s.before fresh is.in_order good_one (is_early one.clear) refl) (cases one s.clear.side s.clear.message) in
    let quiet = nothing_executed two s.between began is.incomplete in
    let end = clear_ends three s.complete is.completes good_end quiet.0 (cases three s.complete.side s.complete.message) in
    let first = run_transmissions core s.before good_one fresh.idle is.no_clear [] s.whole s.cut fresh.empty is.pieces in
    let rest : transmissions (actions_of two (s.between ++ s.complete ∷ [])) ≡ [] =
    both_asked two s.between (s.complete ∷ []) [] [] (no_transmissions (actions_of two s.between) quiet.1)
    (ap transmissions (append-nil (outcome three s.complete).actions) ∙ end.1) in
    let cleared : transmissions (actions_of one (s.clear ∷ (s.between ++ s.complete ∷ []))) ≡ [] =
    filter-append is_transmission (outcome one s.clear).actions (actions_of two (s.between ++ s.complete ∷ []))
    ∙ ap (λ (z : List Act). z ++ transmissions (actions_of two (s.between ++ s.complete ∷ []))) (clear_asks one s.clear is.begins (cases one s.clear.side s.clear.message)) ∙ rest in (
      subst IsFresh (sym all) end.0,
      both_asked core s.before (s.clear ∷ (s.between ++ s.complete ∷ [])) (map (action_for core.clears) s.whole) [] first cleared ∙ append-nil (map (action_for core.clears) s.whole),
    )

-- # A session

one_text : (clears : ℕ) (tr : SentTransmission) (b : Bool) → nat_lt 65536 (length (text_of tr)) ≡ b → action_text (action_for clears tr) ≡ text_kept tr
one_text clears tr true e = rw e refl
one_text clears tr false e = rw e refl

texts : (clears : ℕ) (trs : List SentTransmission) → map action_text (map (action_for clears) trs) ≡ map text_kept trs
texts clears [] = refl
texts clears (tr ∷ trs) =
    ap (λ z. z ∷ map action_text (map (action_for clears) trs)) (one_text clears tr (nat_lt 65536 (length (text_of tr))) refl) ∙ ap (λ z. text_kept tr ∷ z) (texts clears trs)

pub session_transmissions : (core : Core) (stretches : List Stretch) (last : List Arrival) (whole : List SentTransmission) (rest : List (List ℕ)) → IsFresh core
    → All IsStretch stretches → list_any begins_clear last ≡ false → flat_map piece_in last ≡ flat_map pieces_of whole ++ map More rest
    → (core_after core (flat_map run_of stretches ++ last)).failed ≡ false
    → map action_text (transmissions (actions_of core (flat_map run_of stretches ++ last))) ≡ map text_kept (flat_map (λ (s : Stretch). s.whole) stretches ++ whole)
session_transmissions core [] last whole rest fresh a none e good =
    ap (λ z. map action_text z) (run_transmissions core last good fresh.idle none [] whole rest fresh.empty e) ∙ texts core.clears whole
session_transmissions core (s ∷ ss) last whole rest fresh a none e good =
    let later = flat_map run_of ss ++ last in
    let next = core_after core (run_of s) in
    let split : flat_map run_of (s ∷ ss) ++ last ≡ run_of s ++ later = append_assoc (run_of s) (flat_map run_of ss) last in
    let same : core_after core (flat_map run_of (s ∷ ss) ++ last) ≡ core_after next later = ap (core_after core) split ∙ core_after-append core (run_of s) later in
    let good_later : (core_after next later).failed ≡ false = ap (λ (z : Core). z.failed) (sym same) ∙ good in
    let one = stretch core s fresh (a 0 s (omega arith)) (not_failed next later good_later) in
    let more = session_transmissions next ss last whole rest one.0 (λ k d h. a (suc k) d (omega (arith, h))) none e good_later in
    ap (λ z. map action_text (transmissions (actions_of core z))) split
    ∙ ap (λ z. map action_text z) (both_asked core (run_of s) later (map (action_for core.clears) s.whole) (transmissions (actions_of next later)) one.1 refl)
    ∙ map-append action_text (map (action_for core.clears) s.whole) (transmissions (actions_of next later))
    ∙ ap (λ z. z ++ map action_text (transmissions (actions_of next later))) (texts core.clears s.whole)
    ∙ ap (λ z. map text_kept s.whole ++ z) more
    ∙ sym (map-append text_kept s.whole (flat_map (λ (s : Stretch). s.whole) ss ++ whole))
    ∙ ap (λ z. map text_kept z) (sym (append_assoc s.whole (flat_map (λ (s : Stretch). s.whole) ss) whole))

pub fresh_start : (session : ℕ) → IsFresh (started session)
fresh_start session = record { early = refl; idle = refl; empty = refl }
