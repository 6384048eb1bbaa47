use Rattle.std.proofs.Common.{◌≡◌, ◌≢◌, ◌+◌, ℕ, List, ◌∷◌, drop, refl, sym, ◌∙◌, ap, subst, arith}
use Rattle.psu_disk.specs.Ranges.{reads_left}
use Rattle.psu_pages.specs.declared.root.Root.{Root}
use Rattle.psu_pages.specs.declared.standing.Standing.TheVariants.{One, Both, Unsure}
use Rattle.psu_pages.specs.Free.{AreClaimed}
use Rattle.psu_pages.specs.Image.{other, taken, Head}
use Rattle.psu_pages.specs.Shown.{items_in, EachEncodes, EachShut}
use Rattle.psu_pages.specs.Spelling.{IsReady, filled, root_contents, names}
use Rattle.psu_pages.proofs.Places.{other_other}
use Rattle.psu_pages.proofs.Publishing.{contents_filled}
use Rattle.psu_pages.proofs.pages.Pages.publish_root.Given.{Over}
use Rattle.psu_pages.proofs.pages.Pages.publish_root.Goals.{After-switch}
use Rattle.psu_pages.proofs.pages.Pages.publish_root.Goals as goal

contents : (g : Over) (c : After-switch g) → let p = c.args.self.now in c.after_gate.result.now ≡ filled 511 (root_contents p.limit (p.number + 1) (names c.args.heads.items))
contents g c =
    let p = c.args.self.now in
    c.after_gate.ensures.value
    ∙ ap (λ (b : List ℕ). drop 1 (filled 512 b)) (c.spell_root.ensures ∙ ap (λ (hs : List Head). 0 ∷ root_contents p.limit (p.number + 1) (names hs)) c.deref.ensures.value)
    ∙ contents_filled (root_contents p.limit (p.number + 1) (names c.args.heads.items))

ready : (g : Over) (c : After-switch g) → g.D.Disk.honest
    → let p = c.args.self.now in let now = g.D.Disk.state p.disk in IsReady now c.other-next.result p.version p.limit p.number p.heads.items c.args.heads.items (items_in p.root now.bytes) c.after_gate.result.now
ready g c h =
    let p = c.args.self.now in
    let now = g.D.Disk.state p.disk in
    let sure : p.standing ≢ Unsure = λ same. let no : One ≡ Unsure = sym c.requires.shut ∙ same in absurd (cc) in
    let is = c.other-next.ensures in
    record {
      encodes = subst (λ (r : Root). EachEncodes now r p.version p.limit p.number p.heads.items (items_in p.root now.bytes)) (sym (ap other is ∙ other_other p.root)) (p.encodes h sure);
      shut = subst (EachShut now) (sym is) (p.shut h c.requires.shut);
      are_contents = record { contents_are = contents g c; number_fits = c.requires.number; roster = c.requires.roster; there = c.requires.there h };
    }

pub invariant_of-self-2-clause-claimed : goal.invariant_of-self-2-clause-claimed
invariant_of-self-2-clause-claimed g c = let p = c.args.self.now in subst (λ v. AreClaimed p.free (taken v.items)) (sym c.replace.ensures.after) c.requires.claimed

pub invariant_of-self-2-clause-older_claimed : goal.invariant_of-self-2-clause-older_claimed
invariant_of-self-2-clause-older_claimed g c = let p = c.args.self.now in subst (λ v. AreClaimed p.free (taken v.items)) (sym c.replace.ensures.value) p.claimed

pub invariant_of-self-2-clause-lower : goal.invariant_of-self-2-clause-lower
invariant_of-self-2-clause-lower g c = λ h both. c.in_ok-switch.ensures.lower h _ _ _ _ _ _ (ready g (goal.at.invariant_of-self-2-clause-lower g c).After-switch h)

pub invariant_of-self-2-clause-encodes : goal.invariant_of-self-2-clause-encodes
invariant_of-self-2-clause-encodes g c = λ h sure.
    let p = c.args.self.now in
    let next = c.other-next.result in
    let new = g.D.Disk.state c.switch.new.disk in
    let encoded = c.in_ok-switch.ensures.encoded h _ _ _ _ _ _ (ready g (goal.at.invariant_of-self-2-clause-encodes g c).After-switch h) in
    subst (λ v. EachEncodes new next 2 p.limit (p.number + 1) v.items (items_in next new.bytes)) (sym c.replace.ensures.after)
    (subst (EachEncodes new next 2 p.limit (p.number + 1) c.args.heads.items) (sym (encoded new.bytes (reads_left new)).has_contents.items_are) encoded)

pub returns-in_err-switch-clause-left : goal.returns-in_err-switch-clause-left
returns-in_err-switch-clause-left g c = record {
  left = λ h. rw (← c.other-next.ensures) ((c.switch.ensures.left _ _ _ _ _ _ (ready g (goal.at.returns-in_err-switch-clause-left g c).After-switch h)).left h);
  time = λ h t. rw (← c.other-next.ensures) ((c.switch.ensures.left _ _ _ _ _ _ (ready g (goal.at.returns-in_err-switch-clause-left g c).After-switch h)).time h t);
}

pub returns-in_err-switch-clause-touched : goal.returns-in_err-switch-clause-touched
returns-in_err-switch-clause-touched g c = record {
  left = λ h. rw (← c.other-next.ensures) (c.switch.ensures.touched.left h);
  time = λ h t. rw (← c.other-next.ensures) (c.switch.ensures.touched.time h t);
}

pub returns-clause-left : goal.returns-clause-left
returns-clause-left g c = record {
  left = λ h. rw (← c.other-next.ensures) ((c.switch.ensures.left _ _ _ _ _ _ (ready g (goal.at.returns-clause-left g c).After-switch h)).left h);
  time = λ h t. rw (← c.other-next.ensures) ((c.switch.ensures.left _ _ _ _ _ _ (ready g (goal.at.returns-clause-left g c).After-switch h)).time h t);
}

pub returns-clause-touched : goal.returns-clause-touched
returns-clause-touched g c = record {
  left = λ h. rw (← c.other-next.ensures) (c.switch.ensures.touched.left h);
  time = λ h t. rw (← c.other-next.ensures) (c.switch.ensures.touched.time h t);
}

pub returns-clause-spelled : goal.returns-clause-spelled
returns-clause-spelled g c = λ h. c.in_ok-switch.ensures.spelled h ∙ ap (λ (b : List ℕ). 165 ∷ b) (contents g (goal.at.returns-clause-spelled g c).After-switch)

pub returns-clause-shown : goal.returns-clause-shown
returns-clause-shown g c = λ h.
    let new = g.D.Disk.state c.switch.new.disk in
    (c.in_ok-switch.ensures.encoded h _ _ _ _ _ _ (ready g (goal.at.returns-clause-shown g c).After-switch h) new.bytes (reads_left new)).has_contents.items_are

pub invariant_of-self : goal.invariant_of-self
invariant_of-self g c =
    let p = c.args.self.now in
    record {
      limit_least = p.limit_least;
      limit_most = p.limit_most;
      room = omega (arith, p.room, c.switch.ensures.step.extent);
      sized = p.sized;
      first_kept = p.first_kept;
      second_kept = p.second_kept;
      roster = p.roster;
      claimed = p.claimed;
      older_roster = p.older_roster;
      older_claimed = p.older_claimed;
      none_older = λ same. let no : Unsure ≡ One = same in absurd (cc);
      encodes = λ h sure. absurd (sure refl);
      shut = λ h same. let no : Unsure ≡ One = same in absurd (cc);
      lower = λ h same. let no : Unsure ≡ Both = same in absurd (cc);
    }

pub invariant_of-self-2-clause-shut : goal.invariant_of-self-2-clause-shut
invariant_of-self-2-clause-shut g c = λ h same. let no : Both ≡ One = same in absurd (cc)
