use Rattle.std.proofs.Common.{◌≡◌, ◌-◌, ◌<◌, ℕ, List, ◌++◌, false, length, take, drop, refl, sym, ◌∙◌, ap, subst}
use Rattle.std.specs.List.{AllByRecursion}
use Rattle.psu_pages.specs.Image.{AreApart, taken}
use Rattle.psu_pages.specs.Free.{is_free, HandsOver}
use Rattle.psu_pages.proofs.Lists.{all_left, all_right}
use Rattle.psu_pages.proofs.Taken.{taken_parts, between_all, between_apart}
use Rattle.psu_pages.proofs.Marking.{handed_over, handed_between}
use Rattle.psu_pages.proofs.hand_over.hand_over.Goals as goal

pub release-requires-clause-there : goal.release-requires-clause-there
release-requires-clause-there g c = between_all (λ (p : ℕ). p < length c.args.free.now) c.args.older.now c.split_at.result.1.now c.same_first-first.result _ c.split_at.ensures.back c.requires.there

pub release-requires-clause-claimed : goal.release-requires-clause-claimed
release-requires-clause-claimed g c = between_all (λ (p : ℕ). is_free c.args.free.now p ≡ false) c.args.older.now c.split_at.result.1.now c.same_first-first.result _ c.split_at.ensures.back c.requires.older_claimed

pub release-requires-clause-apart : goal.release-requires-clause-apart
release-requires-clause-apart g c = between_apart c.args.older.now c.split_at.result.1.now c.same_first-first.result _ c.split_at.ensures.back c.requires.apart

pub keep-requires : goal.keep-requires
keep-requires g c =
    between_all (λ (p : ℕ). p < length c.release.new.free) c.args.heads.now c.split_at-2.result.1.now c.same_first-first.result _ c.split_at-2.ensures.back
    (subst (λ (n : ℕ). AllByRecursion (λ (p : ℕ). p < n) (taken c.args.heads.now)) (sym c.release.ensures.size) c.requires.heads_there)

pub returns : goal.returns
returns g c =
    let old = c.args.free.now in
    let new = c.keep.new.free in
    let Claimed : ℕ → Type 0 = λ p. is_free old p ≡ false in
    let older = c.args.older.now in
    let heads = c.args.heads.now in
    let older_rest = c.split_at.result.1.now in
    let heads_rest = c.split_at-2.result.1.now in
    let n = length older_rest - c.same_last-last.result in
    let m = length heads_rest - c.same_last-last.result in
    let first = taken (take c.same_first-first.result older) in
    let gone = taken (take n older_rest) in
    let come = taken (take m heads_rest) in
    let last = taken (drop n older_rest) in
    let older_is : taken older ≡ first ++ (gone ++ last) = taken_parts older older_rest (take n older_rest) c.same_first-first.result n c.split_at.ensures.back refl in
    let heads_are : taken heads ≡ first ++ (come ++ last) =
    taken_parts heads heads_rest (take m heads_rest) c.same_first-first.result m c.split_at-2.ensures.back refl
    ∙ ap (λ (l : List ℕ). l ++ (come ++ taken (drop m heads_rest))) (sym c.same_first-first.ensures.same)
    ∙ ap (λ (l : List ℕ). first ++ (come ++ l)) (sym c.same_last-last.ensures.same) in
    let claimed = subst (AllByRecursion Claimed) older_is c.requires.older_claimed in
    let between = handed_over gone come old c.release.new.free new (between_all Claimed heads heads_rest c.same_first-first.result m c.split_at-2.ensures.back c.requires.claimed) c.release.ensures c.keep.ensures in
    let all = handed_between first gone come last old new (all_left Claimed first (gone ++ last) claimed) (all_right Claimed gone last (all_right Claimed first (gone ++ last) claimed)) (subst AreApart older_is c.requires.apart) between in
    subst (λ (ps : List ℕ). HandsOver ps (taken heads) old new) (sym older_is) (subst (λ (ps : List ℕ). HandsOver (first ++ (gone ++ last)) ps old new) (sym heads_are) all)
