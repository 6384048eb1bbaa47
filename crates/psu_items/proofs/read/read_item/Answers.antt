use Rattle.std.proofs.Common.{◌≡◌, ◌∙◌, ap, get_or, List, sym, subst}
use Rattle.std.specs.List.{AllByRecursion}
use Rattle.psu_pages.specs.Image.{Head, IsInPool, pages_of, IsHead}
use Rattle.psu_pages.proofs.Taken.{taken_all}
use Rattle.psu_items.proofs.Reading.{read_more}
use Rattle.psu_pages.proofs.Lists.{all_at}
use Rattle.psu_pages.proofs.Quiet.{quiet_none}
use Rattle.psu_items.proofs.read.read_item.Goals as goal

pub load-requires-clause-pool : goal.load-requires-clause-pool
load-requires-clause-pool g c =
    let p = c.args.pages.now in
    let is : c.in_ok-head.head ≡ get_or p.heads.items c.args.at c.index-heads-at.result = c.in_ok-head.ensures ∙ c.index-heads-at.is ∙ ap (λ (hs : List Head). get_or hs c.args.at c.index-heads-at.result) c.heads.ensures.value in
    let all = taken_all (IsInPool p.limit) p.heads.items c.args.at c.index-heads-at.result c.requires p.roster.pool in
    let mine = subst (λ (h : Head). AllByRecursion (IsInPool p.limit) (pages_of h)) (sym is) all in mine.1

pub returns-clause-found : goal.returns-clause-found
returns-clause-found g c = λ h of.
    let p = c.args.pages.now in
    let is : c.in_ok-head.head ≡ get_or p.heads.items c.args.at c.index-heads-at.result = c.in_ok-head.ensures ∙ c.index-heads-at.is ∙ ap (λ (hs : List Head). get_or hs c.args.at c.index-heads-at.result) c.heads.ensures.value in
    read_more (g.D.Disk.state p.disk).bytes p.heads.items c.args.at c.index-heads-at.result c.in_ok-head.head c.args.items.now c.insert.new.self c.in_ok-to_vec.field-0.items c.in_ok-new.field-0 c.requires is (c.in_ok-to_vec.ensures.items_if_clones_equal (λ x y e. e) ∙ c.key.ensures) (c.in_ok-new.ensures ∙ c.in_ok-value.ensures.found h) c.in_ok-insert.ensures.sets of

pub load-requires-clause-is_head : goal.load-requires-clause-is_head
load-requires-clause-is_head g c =
    let p = c.args.pages.now in
    let is : c.in_ok-head.head ≡ get_or p.heads.items c.args.at c.index-heads-at.result = c.in_ok-head.ensures ∙ c.index-heads-at.is ∙ ap (λ (hs : List Head). get_or hs c.args.at c.index-heads-at.result) c.heads.ensures.value in
    subst IsHead (sym is) (all_at IsHead p.heads.items c.args.at c.index-heads-at.result c.requires p.roster.each)

pub returns-in_err-head-clause-left : goal.returns-in_err-head-clause-left
returns-in_err-head-clause-left g c = record {
  left = λ h x l. l;
  time = λ h t. quiet_none (let p = c.args.pages.now in g.met.D.Disk.only_now t p.disk);
}
