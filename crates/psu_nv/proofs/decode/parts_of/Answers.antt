use Rattle.std.proofs.Common.{◌≡◌, sym, ◌∙◌, ap, true, false, rules}
use Rattle.psu_nv.specs.Parts.{Enables, User, Macros, Recall}
use Rattle.psu_nv.specs.Decoding.{RepresentsContents, fit_files}
use Rattle.psu_nv.proofs.Kept.{kept_part, kept_files, at_error, are_contents, items_again}
use Rattle.psu_nv.proofs.decode.parts_of.Goals as goal

pub returns-in_err-enables-clause-none : goal.returns-in_err-enables-clause-none
returns-in_err-enables-clause-none g c = at_error c.from_residual.result (λ (kept : RepresentsContents c.args.items.now).
    c.in_err-enables.ensures.none kept.contents.enables kept.are.mss (kept_part c.args.items.now kept Enables ∙ sym c.get.ensures))

pub returns-in_err-user-clause-none : goal.returns-in_err-user-clause-none
returns-in_err-user-clause-none g c = at_error c.from_residual-in_err-user.result (λ (kept : RepresentsContents c.args.items.now).
    c.in_err-user.ensures.none kept.contents.user kept.are.user (kept_part c.args.items.now kept User ∙ sym c.get-2.ensures))

pub returns-in_err-macros-clause-none : goal.returns-in_err-macros-clause-none
returns-in_err-macros-clause-none g c = at_error c.from_residual-in_err-macros.result (λ (kept : RepresentsContents c.args.items.now).
    c.in_err-macros.ensures.none kept.contents.macros kept.are.macros kept.are.distinct kept.are.most_macros (kept_part c.args.items.now kept Macros ∙ sym c.get-3.ensures))

pub returns-in_err-recall-clause-none : goal.returns-in_err-recall-clause-none
returns-in_err-recall-clause-none g c = at_error c.from_residual-in_err-recall.result (λ (kept : RepresentsContents c.args.items.now).
    c.in_err-recall.ensures.none kept.contents.recall (kept_part c.args.items.now kept Recall ∙ sym c.get-4.ensures))

pub returns-then-not-fit_files-clause-none : goal.returns-then-not-fit_files-clause-none
returns-then-not-fit_files-clause-none g c = λ kept.
    let fit : fit_files c.pairs.result.now ≡ true = ap fit_files c.pairs.ensures.all ∙ kept_files c.args.items.now kept in
    let misfit : c.fit_files.result ≡ false = search rules in
    absurd (let same = c.fit_files.ensures in cc)

pub returns-clause-are : goal.returns-clause-are
returns-clause-are g c =
    let items = c.args.items.now in
    let fit : fit_files items ≡ true = ap fit_files (sym c.pairs.ensures.all) ∙ sym c.fit_files.ensures ∙ c.if-not-fit_files.false in
    are_contents items c.in_ok-enables.enables c.in_ok-registers.registers c.in_ok-user.user c.in_ok-macros.macros.items c.pairs.ensures.sorted c.requires
    c.in_ok-enables.ensures.mss (c.in_ok-enables.ensures.found ∙ c.get.ensures)
    c.in_ok-registers.ensures.count c.in_ok-registers.ensures.are c.in_ok-registers.ensures.found
    c.in_ok-user.ensures.most (c.in_ok-user.ensures.found ∙ c.get-2.ensures)
    c.in_ok-macros.ensures.are c.in_ok-macros.ensures.distinct c.in_ok-macros.ensures.most (c.in_ok-macros.ensures.found ∙ c.get-3.ensures)
    c.in_ok-recall.recall (c.in_ok-recall.ensures.found ∙ c.get-4.ensures) fit

pub returns-clause-items : goal.returns-clause-items
returns-clause-items g c =
    let items = c.args.items.now in
    let fit : fit_files items ≡ true = ap fit_files (sym c.pairs.ensures.all) ∙ sym c.fit_files.ensures ∙ c.if-not-fit_files.false in
    items_again items c.in_ok-enables.enables c.in_ok-registers.registers c.in_ok-user.user c.in_ok-macros.macros.items c.pairs.ensures.sorted c.requires
    c.in_ok-enables.ensures.mss (c.in_ok-enables.ensures.found ∙ c.get.ensures)
    c.in_ok-registers.ensures.count c.in_ok-registers.ensures.are c.in_ok-registers.ensures.found
    c.in_ok-user.ensures.most (c.in_ok-user.ensures.found ∙ c.get-2.ensures)
    c.in_ok-macros.ensures.are c.in_ok-macros.ensures.distinct c.in_ok-macros.ensures.most (c.in_ok-macros.ensures.found ∙ c.get-3.ensures)
    c.in_ok-recall.recall (c.in_ok-recall.ensures.found ∙ c.get-4.ensures) fit
