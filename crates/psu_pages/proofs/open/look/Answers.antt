use Rattle.std.proofs.Common.{◌≡◌, ◌≤◌, ℕ, List, length, map, sym, ◌∙◌, ap, arith, subst}
use Rattle.std.specs.Prelude.{is_some}
use Rattle.psu_disk.specs.Disk.{Range}
use Rattle.psu_pages.specs.Image.{head_at, heads_in, words, Head, AreApart, AreShort, keys, taken}
use Rattle.psu_pages.specs.Finding.{AreFit, CanStand}
use Rattle.psu_disk.specs.Steps.{step_on, step_ok}
use Rattle.psu_pages.proofs.Numbers.{length_words}
use Rattle.psu_pages.proofs.Quiet.{quiet_runs}
use Rattle.psu_pages.proofs.Opening.{HasChosen, roster_of, gates, readable, bad_root, named, encodes, stand}
use Rattle.psu_pages.proofs.open.look.Given.{Over}
use Rattle.psu_pages.proofs.open.look.Goals.{In_ok-chosen, After-scan, In-Ok-Some}
use Rattle.psu_pages.proofs.open.look.Goals as goal

has : (g : Over) (c : In_ok-chosen g) → g.D.Disk.honest → HasChosen (g.D.Disk.state c.args.disk.now).bytes c.in_ok-chosen.chosen
has g c h =
    let image = (g.D.Disk.state c.args.disk.now).bytes in
    let are = c.in_ok-roots.ensures.found h in
    let sized : length image ≡ c.size.result = g.met.D.Disk.sized h c.args.disk.now ∙ sym (c.size.ensures ∙ c.read_roots.ensures.step.extent) in
    record { size = are.size; is = c.in_ok-chosen.ensures.chosen image are sized }

names_are : (g : Over) (c : After-scan g) → c.deref.result.now ≡ words c.in_ok-chosen.chosen.count (Range 18 480 c.page.result.now)
names_are g c = c.deref.ensures.value ∙ c.in-Ok.ensures

heads_are : (g : Over) (c : After-scan g) → g.D.Disk.honest → let image = (g.D.Disk.state c.args.disk.now).bytes in HasChosen image c.in_ok-chosen.chosen → map (head_at image) c.deref.result.now ≡ heads_in c.in_ok-chosen.chosen.root image
heads_are g c h is =
    let image = (g.D.Disk.state c.args.disk.now).bytes in
    ap (map (head_at image)) (named is c.page.result.now c.deref.result.now (c.page.ensures.value image (c.in_ok-roots.ensures.found h)) (names_are g c))

read : (g : Over) (c : In-Ok-Some g) → g.D.Disk.honest → c.in-Ok-Some.found.heads.items ≡ map (head_at (g.D.Disk.state c.args.disk.now).bytes) c.deref.result.now
read g c h =
    let heads : c.in-Ok-Some.found.heads.items ≡ map (head_at (g.D.Disk.state c.read_roots.new.disk).bytes) c.deref.result.now = rw c.in-Ok-Some.field-0-is at (c.in-Ok-Some.ensures.found h) in
    heads ∙ ap (λ (x : List ℕ). map (head_at x) c.deref.result.now) (c.read_roots.ensures.seen h)

pub returns-in_default-clause-memory : goal.returns-in_default-clause-memory
returns-in_default-clause-memory g c = λ h memory. readable (has g (goal.at.returns-in_default-clause-memory g c).In_ok-chosen h)

pub returns-in-Err-clause-memory : goal.returns-in-Err-clause-memory
returns-in-Err-clause-memory g c = λ h memory. readable (has g (goal.at.returns-in-Err-clause-memory g c).In_ok-chosen h)

pub returns-in-Ok-None-clause-refused : goal.returns-in-Ok-None-clause-refused
returns-in-Ok-None-clause-refused g c = λ h.
    let d = g.D.Disk in
    let image = (d.state c.args.disk.now).bytes in
    let root = c.in_ok-chosen.chosen.root in
    let limit = c.in_ok-chosen.chosen.limit in
    let at = goal.at.returns-in-Ok-None-clause-refused g c in
    let is = has g at.In_ok-chosen h in
    bad_root is (λ shows.
    c.in-Ok-None.ensures.none h (ap is_some c.in-Ok-None.field-0-is) (subst (λ (x : List ℕ). CanStand limit (map (head_at x) c.deref.result.now)) (sym (c.read_roots.ensures.seen h)) (subst (CanStand limit) (sym (heads_are g at.After-scan h is)) (stand root image limit shows))))

pub returns-then-not-stand_together-clause-refused : goal.returns-then-not-stand_together-clause-refused
returns-then-not-stand_together-clause-refused g c = λ h.
    let at = goal.at.returns-then-not-stand_together-clause-refused g c in
    let is = has g at.In_ok-chosen h in
    let chosen = c.in_ok-chosen.chosen in
    let heads = sym (c.deref-2.ensures.value ∙ read g at.In-Ok-Some h ∙ heads_are g at.After-scan h is) in
    bad_root is (λ shows.
    c.stand_together.ensures.no c.if-not-stand_together.true (subst (AreShort chosen.version) heads (subst (λ (v : ℕ). AreShort v (heads_in chosen.root (g.D.Disk.state c.args.disk.now).bytes)) is.is.version shows.short))
    (subst (λ (hs : List Head). length (taken hs) ≤ chosen.limit) heads shows.cost) (subst (λ (hs : List Head). AreApart (keys hs)) heads shows.distinct))

pub returns-clause-roster : goal.returns-clause-roster
returns-clause-roster g c =
    let hs = c.in-Ok-Some.found.heads.items in
    let found = c.in-Ok-Some.found in
    let fit : AreFit c.in_ok-chosen.chosen.limit hs found.free = rw c.in-Ok-Some.field-0-is at c.in-Ok-Some.ensures.fit in
    let many : length hs ≡ length c.deref.result.now = rw c.in-Ok-Some.field-0-is at c.in-Ok-Some.ensures.many in
    let yes = c.if-not-stand_together.false in
    let names = names_are g (goal.at.returns-clause-roster g c).After-scan in
    roster_of c.in_ok-chosen.chosen.limit hs fit.can_stand (omega (arith, many, ap (λ (l : List ℕ). length l) names, length_words c.in_ok-chosen.chosen.count (Range 18 480 c.page.result.now), c.in_ok-chosen.ensures.limit.3))
    (subst (λ (l : List Head). length (taken l) ≤ c.in_ok-chosen.chosen.limit) c.deref-2.ensures.value (c.stand_together.ensures.within yes))
    (subst (λ (l : List Head). AreApart (keys l)) c.deref-2.ensures.value (c.stand_together.ensures.distinct yes))

pub returns-clause-found : goal.returns-clause-found
returns-clause-found g c = λ h.
    let at = goal.at.returns-clause-found g c in
    let is = has g at.In_ok-chosen h in
    encodes is c.in-Ok-Some.found.heads.items (sym (read g at.In-Ok-Some h ∙ heads_are g at.After-scan h is)) (returns-clause-roster g c) (subst (AreShort c.in_ok-chosen.chosen.version) c.deref-2.ensures.value (c.stand_together.ensures.short c.if-not-stand_together.false))

pub returns-clause-gates : goal.returns-clause-gates
returns-clause-gates g c = λ h. gates (has g (goal.at.returns-clause-gates g c).In_ok-chosen h)

pub returns-in-Ok-None-clause-left : goal.returns-in-Ok-None-clause-left
returns-in-Ok-None-clause-left g c = record {
  left = λ h x l. c.read_roots.ensures.left.left h x (c.scan.ensures.left.left h x l);
  time = λ h t. quiet_runs (c.read_roots.ensures.left.time h t) (c.read_roots.ensures.left.left h) (c.scan.ensures.left.time h t);
}

pub returns-in-Err-clause-left : goal.returns-in-Err-clause-left
returns-in-Err-clause-left g c = record {
  left = λ h x l. c.read_roots.ensures.left.left h x (c.scan.ensures.left.left h x l);
  time = λ h t. quiet_runs (c.read_roots.ensures.left.time h t) (c.read_roots.ensures.left.left h) (c.scan.ensures.left.time h t);
}

pub returns-then-not-stand_together-clause-quiet : goal.returns-then-not-stand_together-clause-quiet
returns-then-not-stand_together-clause-quiet g c = λ cause. c.in-Ok-Some.ensures.step.works ∙ c.in_ok-roots.ensures.step.works

pub returns-then-not-stand_together-clause-left : goal.returns-then-not-stand_together-clause-left
returns-then-not-stand_together-clause-left g c = record {
  left = λ h x l. c.read_roots.ensures.left.left h x (c.scan.ensures.left.left h x l);
  time = λ h t. quiet_runs (c.read_roots.ensures.left.time h t) (c.read_roots.ensures.left.left h) (c.scan.ensures.left.time h t);
}

pub returns-then-not-stand_together-clause-seen : goal.returns-then-not-stand_together-clause-seen
returns-then-not-stand_together-clause-seen g c = λ h. c.scan.ensures.seen h ∙ c.read_roots.ensures.seen h

pub returns-clause-step : goal.returns-clause-step
returns-clause-step g c = step_on c.in_ok-roots.ensures.step (step_ok c.in-Ok-Some.ensures.step)

pub returns-clause-left : goal.returns-clause-left
returns-clause-left g c = record {
  left = λ h x l. c.read_roots.ensures.left.left h x (c.scan.ensures.left.left h x l);
  time = λ h t. quiet_runs (c.read_roots.ensures.left.time h t) (c.read_roots.ensures.left.left h) (c.scan.ensures.left.time h t);
}

pub returns-clause-seen : goal.returns-clause-seen
returns-clause-seen g c = λ h. c.scan.ensures.seen h ∙ c.read_roots.ensures.seen h

pub returns-clause-synced : goal.returns-clause-synced
returns-clause-synced g c = λ h x l. c.in_ok-roots.ensures.synced h x (c.scan.ensures.left.left h x l) ∙ sym (c.scan.ensures.seen h)

pub returns-clause-limit : goal.returns-clause-limit
returns-clause-limit g c = (c.in_ok-chosen.ensures.limit.0, c.in_ok-chosen.ensures.limit.1, omega (arith, c.in_ok-chosen.ensures.limit.2, c.size.ensures, c.read_roots.ensures.step.extent))

pub returns-clause-fit : goal.returns-clause-fit
returns-clause-fit g c = rw c.in-Ok-Some.field-0-is at c.in-Ok-Some.ensures.fit
