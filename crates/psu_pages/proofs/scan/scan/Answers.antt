use Rattle.std.proofs.Common.{◌≡◌, ◌≤◌, ◌++◌, ◌∷◌, [], ℕ, List, false, length, get_or, take, map, refl, sym, ◌∙◌, ap, subst, arith, length-append}
use Rattle.psu_disk.specs.Disk.{HasFailed}
use Rattle.std.specs.Prelude.{is_some}
use Rattle.psu_pages.specs.Free.{Marks}
use Rattle.psu_pages.specs.Image.{Head, head_at, pages_of}
use Rattle.psu_pages.specs.Finding.{AreFit, IsFit}
use Rattle.std.proofs.lemmas.List.{take_all, take-map, get_or-map, length-map}
use Rattle.psu_pages.proofs.Quiet.{quiet_none, quiet_runs}
use Rattle.psu_pages.proofs.Scanning.{fit_none, fit_more, fit_next, map_more}
use Rattle.psu_pages.proofs.scan.scan.Goals as goal

pub loop-name-init : goal.loop-name-init
loop-name-init g c =
    record {
      extent = refl;
      works = refl;
      many = ap (λ (hs : List Head). length hs) c.in_ok-heads.ensures.items;
      fit = subst (λ (hs : List Head). AreFit c.args.limit hs c.in_ok-free.free) (sym c.in_ok-heads.ensures.items) (fit_none c.args.limit c.in_ok-free.free c.in_ok-free.ensures);
      found = λ h. c.in_ok-heads.ensures.items;
      seen = λ h. refl;
      left = λ h x l. l;
      time = λ h t. quiet_none (g.met.D.Disk.only_now t c.args.disk.now);
    }

pub returns-in-Ok-None-clause-none : goal.returns-in-Ok-None-clause-none
returns-in-Ok-None-clause-none g c = λ h none can.
    let d = g.D.Disk in
    let l = c.loop-name in
    let image = (d.state c.args.disk.now).bytes in
    let names = c.args.names.now in
    let all = map (head_at image) names in
    let i = l.name-index in
    let so : AreFit c.args.limit (take i all) l.free = subst (λ (hs : List Head). AreFit c.args.limit hs l.free) (l.invariant.found h ∙ sym (take-map (head_at image) i names)) l.invariant.fit in
    let fit = fit_next c.args.limit all i (head_at image 0) l.free (omega (arith, c.loop-name-test.true, length-map names (head_at image))) can so in
    let is : get_or all i (head_at image 0) ≡ head_at (d.state l.disk).bytes (get_or names i 0) = get_or-map (head_at image) names i 0 (head_at image 0) c.loop-name-test.true ∙ ap (λ (x : List ℕ). head_at x (get_or names i 0)) (sym (l.invariant.seen h)) in
    c.in-Ok-None.ensures.none h (ap is_some c.in-Ok-None.field-0-is) (subst (IsFit l.free) is fit)

pub loop-name-preserved : goal.loop-name-preserved
loop-name-preserved g c =
    let d = g.D.Disk in
    let l = c.loop-name in
    let image = (d.state c.args.disk.now).bytes in
    let names = c.args.names.now in
    let i = l.name-index in
    let head = c.in-Ok-Some.head in
    let fit : IsFit l.free head = rw c.in-Ok-Some.field-0-is at c.in-Ok-Some.ensures.fit in
    let claimed : Marks false (pages_of head) l.free c.read_head.new.free = rw c.in-Ok-Some.field-0-is at c.in-Ok-Some.ensures.claimed in
    record {
      extent = c.read_head.ensures.step.extent ∙ l.invariant.extent;
      works = c.in-Ok-Some.ensures.step.works ∙ l.invariant.works;
      many = omega (arith, ap (λ (hs : List Head). length hs) c.in_ok-add.ensures, length-append l.heads.items (head ∷ []), l.invariant.many);
      fit = subst (λ (hs : List Head). AreFit c.args.limit hs c.read_head.new.free) (sym c.in_ok-add.ensures) (fit_more c.args.limit l.heads.items head l.free c.read_head.new.free l.invariant.fit fit claimed);
      found = λ h.
          let found : head ≡ head_at (d.state l.disk).bytes (get_or names i 0) = rw c.in-Ok-Some.field-0-is at (c.in-Ok-Some.ensures.found h) in
          c.in_ok-add.ensures
          ∙ ap (λ (hs : List Head). hs ++ head ∷ []) (l.invariant.found h)
          ∙ ap (λ (one : Head). map (head_at image) (take i names) ++ one ∷ []) (found ∙ ap (λ (x : List ℕ). head_at x (get_or names i 0)) (l.invariant.seen h))
          ∙ sym (map_more (head_at image) names i 0 c.loop-name-test.true);
      seen = λ h. c.read_head.ensures.seen h ∙ l.invariant.seen h;
      left = λ h x i. l.invariant.left h x (c.read_head.ensures.left.left h x i);
      time = λ h t. quiet_runs (l.invariant.time h t) (l.invariant.left h) (c.read_head.ensures.left.time h t);
    }

pub returns-in-Err-clause-step : goal.returns-in-Err-clause-step
returns-in-Err-clause-step g c =
    let d = g.D.Disk in
    let new = c.read_head.new.disk in
    let same = c.loop-name.invariant.works in
    record {
      extent = c.read_head.ensures.step.extent ∙ c.loop-name.invariant.extent;
      works = tt;
      later = subst (λ (n : ℕ). n ≤ d.failures new) same c.read_head.ensures.step.later;
      device = λ is. subst (λ (n : ℕ). HasFailed n (d.failures new)) same (c.in-Err.ensures.step.device is);
    }

pub returns-in-Err-clause-quiet : goal.returns-in-Err-clause-quiet
returns-in-Err-clause-quiet g c = λ not_device. c.in-Err.ensures.quiet not_device ∙ c.loop-name.invariant.works

pub returns-clause-found : goal.returns-clause-found
returns-clause-found g c = λ h.
    let l = c.loop-name in
    l.invariant.found h ∙ ap (map (head_at (g.D.Disk.state c.args.disk.now).bytes)) (take_all l.name-index c.args.names.now (omega (arith, c.loop-name-test.false)))

pub returns-in-Ok-None-clause-left : goal.returns-in-Ok-None-clause-left
returns-in-Ok-None-clause-left g c = record {
  left = λ h x l. c.loop-name.invariant.left h x (c.read_head.ensures.left.left h x l);
  time = λ h t. quiet_runs (c.loop-name.invariant.time h t) (c.loop-name.invariant.left h) (c.read_head.ensures.left.time h t);
}

pub returns-in-Ok-None-clause-seen : goal.returns-in-Ok-None-clause-seen
returns-in-Ok-None-clause-seen g c = λ h. c.read_head.ensures.seen h ∙ c.loop-name.invariant.seen h

pub returns-in-Err-clause-left : goal.returns-in-Err-clause-left
returns-in-Err-clause-left g c = record {
  left = λ h x l. c.loop-name.invariant.left h x (c.read_head.ensures.left.left h x l);
  time = λ h t. quiet_runs (c.loop-name.invariant.time h t) (c.loop-name.invariant.left h) (c.read_head.ensures.left.time h t);
}

pub returns-in-Err-clause-seen : goal.returns-in-Err-clause-seen
returns-in-Err-clause-seen g c = λ h. c.read_head.ensures.seen h ∙ c.loop-name.invariant.seen h

pub returns-in_err-add-clause-left : goal.returns-in_err-add-clause-left
returns-in_err-add-clause-left g c = record {
  left = λ h x l. c.loop-name.invariant.left h x (c.read_head.ensures.left.left h x l);
  time = λ h t. quiet_runs (c.loop-name.invariant.time h t) (c.loop-name.invariant.left h) (c.read_head.ensures.left.time h t);
}

pub returns-in_err-add-clause-seen : goal.returns-in_err-add-clause-seen
returns-in_err-add-clause-seen g c = λ h. c.read_head.ensures.seen h ∙ c.loop-name.invariant.seen h
