use Rattle.std.proofs.Common.{◌∙◌, List, ap, sym, subst, ◌≡◌, true, false, ◌≤◌, length}
use Rattle.psu_pages.specs.Image.{Head}
use Rattle.psu_items.specs.Layout.{HasHead, IsOneOf}
use Rattle.psu_map.specs.Target.{item_in, Entry}
use Rattle.psu_items.proofs.Keeping.{key_of, one_has, one_key, size_of}
use Rattle.psu_items.proofs.layout.slot_for.Goals as goal

pub returns-in-Some-clause-standing : goal.returns-in-Some-clause-standing
returns-in-Some-clause-standing g c = λ stands head one key size.
    let heads = c.heads-in-Some.result.now in
    let item = item_in c.args.entry.now in
    let at = c.in-Some.at in
    let found = c.index-heads-at in
    let has = subst (λ (hs : List Head). HasHead hs item at) (c.heads.ensures.value ∙ sym c.heads-in-Some.ensures.value) c.in-Some.ensures.head in
    let here = subst (λ (hs : List Head). IsOneOf hs head) (sym c.heads-in-Some.ensures.value) one in
    let same = key_of heads item at found.result found.is has ∙ sym key in
    c.in_ok-share.ensures ∙ found.is ∙ one_key heads at here.0 found.result head c.heads-in-Some.ensures.roster.distinct has.within here.1 (ap (λ (h : Head). h.key) (sym found.is) ∙ same ∙ ap (λ (h : Head). h.key) (sym here.2)) ∙ here.2

pub returns-in-Ok-clause-standing : goal.returns-in-Ok-clause-standing
returns-in-Ok-clause-standing g c = λ stands head one key size.
    let heads = c.heads.result.now in
    let here = subst (λ (hs : List Head). IsOneOf hs head) (sym c.heads.ensures.value) one in
    absurd (c.in_default.ensures.found stands here.0 (one_has heads (item_in c.args.entry.now) head here key size))

pub returns-in-Some-clause-slot : goal.returns-in-Some-clause-slot
returns-in-Some-clause-slot g c = λ before of.
    let heads = c.heads-in-Some.result.now in
    let item = item_in c.args.entry.now in
    let at = c.in-Some.at in
    let found = c.index-heads-at in
    let copy = c.in_ok-share.ensures in
    let has = subst (λ (hs : List Head). HasHead hs item at) (c.heads.ensures.value ∙ sym c.heads-in-Some.ensures.value) c.in-Some.ensures.head in
    record {
      key_is = ap (λ (h : Head). h.key) copy ∙ key_of heads item at found.result found.is has;
      size_is = ap (λ (h : Head). h.size) copy ∙ size_of heads item at found.result found.is has;
      planned = λ new. let no : false ≡ true = new in absurd (cc);
      were_free = λ new. let no : false ≡ true = new in absurd (cc);
      kept = λ old. subst (λ (hs : List Head). IsOneOf hs c.in_ok-share.field-0) c.heads-in-Some.ensures.value (subst (IsOneOf heads) (sym copy) (at, has.within, sym found.is));
      stands = λ old. of c.in-Some.ensures.stands;
    }

pub plan-requires-clause-key_least : goal.plan-requires-clause-key_least
plan-requires-clause-key_least g c = subst (λ (e : Entry). 1 ≤ length e.key) (sym c.entry.view_is) c.requires.fits.key

pub plan-requires-clause-key_most : goal.plan-requires-clause-key_most
plan-requires-clause-key_most g c = subst (λ (e : Entry). length e.key ≤ 65) (sym c.entry.view_is) c.requires.fits.key_most

pub plan-requires-clause-size_least : goal.plan-requires-clause-size_least
plan-requires-clause-size_least g c = subst (λ (e : Entry). 1 ≤ length e.value) (sym c.entry.view_is) c.requires.fits.value

pub plan-requires-clause-size_most : goal.plan-requires-clause-size_most
plan-requires-clause-size_most g c = subst (λ (e : Entry). length e.value ≤ 33280) (sym c.entry.view_is) c.requires.fits.value_most
