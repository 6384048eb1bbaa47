use Rattle.std.proofs.Common.{◌∙◌, ◌++◌, List, map, ap, append_assoc}
use Rattle.psu_map.specs.Map.{Item}
use Rattle.psu_nv.specs.Contents.{items_of, user_items, macros_items, recall_items, file_item}
use Rattle.psu_nv.proofs.Encoding.{before_user, before_macros, before_recall}
use Rattle.psu_nv.proofs.contents.Contents.encode_items.Goals as goal

pub append-requires-2 : goal.append-requires-2
append-requires-2 g c = before_user c.args.self.now _ c.in_ok-append_registers.ensures

pub append-requires-3 : goal.append-requires-3
append-requires-3 g c = before_macros c.args.self.now _ _ c.in_ok-append_registers.ensures c.in_ok-append-2.ensures

pub append-requires-4 : goal.append-requires-4
append-requires-4 g c =
    let kept = c.args.self.now in
    before_recall c.args.self.now _ _ (c.in_ok-append-3.ensures ∙ ap (λ (l : List Item). l ++ macros_items kept.macros) (c.in_ok-append-2.ensures ∙ ap (λ (l : List Item). l ++ user_items kept.user) c.in_ok-append_registers.ensures)) c.in_ok-append_files.ensures

pub returns : goal.returns
unfolding items_of
returns g c =
    let kept = c.args.self.now in
    let prefix = c.in_ok-append-3.ensures ∙ ap (λ (l : List Item). l ++ macros_items kept.macros) (c.in_ok-append-2.ensures ∙ ap (λ (l : List Item). l ++ user_items kept.user) c.in_ok-append_registers.ensures) in
    c.in_ok-append-4.ensures ∙ ap (λ (l : List Item). l ++ recall_items kept.recall) (c.in_ok-append_files.ensures ∙ ap (λ (l : List Item). l ++ map file_item kept.files) prefix) ∙ simp append_assoc
