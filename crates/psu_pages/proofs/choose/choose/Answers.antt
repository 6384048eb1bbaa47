use Rattle.std.proofs.Common.{◌≡◌, ℕ, Option, sym, ◌∙◌, subst}
use Rattle.psu_pages.specs.declared.root.Root.TheVariants.{First, Second}
use Rattle.psu_pages.specs.Finding.{open_number, IsPicked, IsNonePicked, IsPickedIn, IsSound, IsUnsound}
use Rattle.psu_pages.proofs.Choosing.{unpicked, number_on, picked_current, version_is, limit_is, count_is, good_words, unsound}
use Rattle.psu_pages.proofs.choose.choose.Goals as goal

pub returns-in-Err-clause-refused : goal.returns-in-Err-clause-refused
returns-in-Err-clause-refused c = λ x are sized.
    let first : c.open_number.result ≡ open_number First x = c.open_number.ensures ∙ number_on First x c.args.roots.now.first are.size are.first in
    let second : c.open_number-2.result ≡ open_number Second x = c.open_number-2.ensures ∙ number_on Second x c.args.roots.now.second are.size are.second in
    unpicked x c.in-Err.bad are.size (subst (λ (o : Option ℕ). IsNonePicked (open_number First x) o c.in-Err.bad) second (subst (λ (o : Option ℕ). IsNonePicked o c.open_number-2.result c.in-Err.bad) first c.in-Err.ensures.none))

pub returns-in-Err-check-clause-refused : goal.returns-in-Err-check-clause-refused
returns-in-Err-check-clause-refused c = λ x are sized.
    let first : c.open_number.result ≡ open_number First x = c.open_number.ensures ∙ number_on First x c.args.roots.now.first are.size are.first in
    let second : c.open_number-2.result ≡ open_number Second x = c.open_number-2.ensures ∙ number_on Second x c.args.roots.now.second are.size are.second in
    let p = c.in-Ok.picked in
    let picked : IsPickedIn x p.root p.number p.both = subst (λ (o : Option ℕ). IsPicked (open_number First x) o p.root p.number p.both) second (subst (λ (o : Option ℕ). IsPicked o c.open_number-2.result p.root p.number p.both) first c.in-Ok.ensures.picked) in
    let w = c.words_on-words in
    unsound p.root x c.page.result.now are.size (c.page.ensures.value x are) w.result w.ensures.mark w.ensures.version w.ensures.limit w.ensures.count c.in-Err-check.bad (picked_current p.root p.number p.both x picked)
    (subst (λ (n : ℕ). IsUnsound w.result n c.in-Err-check.bad) (sym sized) c.in-Err-check.ensures.unsound)

pub returns-clause-chosen : goal.returns-clause-chosen
returns-clause-chosen c = λ x are sized.
    let first : c.open_number.result ≡ open_number First x = c.open_number.ensures ∙ number_on First x c.args.roots.now.first are.size are.first in
    let second : c.open_number-2.result ≡ open_number Second x = c.open_number-2.ensures ∙ number_on Second x c.args.roots.now.second are.size are.second in
    let p = c.in-Ok.picked in
    let w = c.words_on-words in
    let page = c.page.ensures.value x are in
    record {
      picked = subst (λ (o : Option ℕ). IsPicked (open_number First x) o p.root p.number p.both) second (subst (λ (o : Option ℕ). IsPicked o c.open_number-2.result p.root p.number p.both) first c.in-Ok.ensures.picked);
      words = good_words p.root x c.page.result.now are.size page w.result w.ensures.mark w.ensures.version w.ensures.limit w.ensures.count (subst (IsSound w.result) (sym sized) c.in_default.ensures.sound);
      version = sym (version_is p.root x c.page.result.now are.size page w.result w.ensures.mark w.ensures.version w.ensures.limit w.ensures.count);
      limit = sym (limit_is p.root x c.page.result.now are.size page w.result w.ensures.mark w.ensures.version w.ensures.limit w.ensures.count);
      count = sym (count_is p.root x c.page.result.now are.size page w.result w.ensures.mark w.ensures.version w.ensures.limit w.ensures.count);
    }
