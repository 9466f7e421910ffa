use Rattle.std.proofs.Common.{◌≡◌, ◌<◌, List, get_or, string_bytes, subst, ap, sym, ◌∙◌, length, OnOk}
use Rattle.ale_declared.specs.Names.{name_of}
use Rattle.ale_graph.specs.declared.node.Node.{Node}
use Rattle.ale_graph.specs.Structures.{Structure, type_of}
use Rattle.ale_print.specs.Naming.{printed_name}
use Rattle.ale_print.specs.Appending.{Appends}
use Rattle.ale_print.specs.Texts.{type_front}
use Rattle.ale_print.proofs.Appended.{on_ok, both}
use Rattle.ale_print.proofs.Stepping.{node_here}
use Rattle.ale_print.proofs.text.push_first.Goals as goal

pub returns : goal.returns
returns c =
    let old = string_bytes c.args.out.now in
    let one = string_bytes c.push_type_front.new.out in
    let new = string_bytes c.push_type.new.out in
    let tag = get_or c.args.tags.now c.args.node 0 in
    let nodes : c.as_slice.result.now ≡ c.args.g.now.nodes = c.as_slice.ensures ∙ ap (λ (s : Structure). s.nodes) c.g.view_is in
    let low = subst (λ (z : List Node). c.args.node < length z) (sym nodes) c.requires.node in
    let here = node_here c.args.g.now c.as_slice.result.now c.args.node c.index-as_slice-node.result nodes low c.index-as_slice-node.is in
    let typed : (get_or c.as_slice.result.now c.args.node c.index-as_slice-node.result).of ≡ type_of c.args.g.now c.args.node =
    ap (λ (x : Node). x.of) (sym c.index-as_slice-node.is ∙ sym here) in
    on_ok c.push_type.result
    (both old one new (type_front tag) (printed_name (name_of c.args.sig.now.types (type_of c.args.g.now c.args.node)))
    (rw c.tag_of.ensures at c.in_ok-push_type_front.ensures))
    (subst (λ z. OnOk c.push_type.result (Appends c.push_type_front.new.out c.push_type.new.out (printed_name (name_of c.args.sig.now.types z)))) typed c.push_type.ensures)
