use Rattle.std.proofs.Common.{◌≡◌, ◌++◌, drop, length, string_bytes, true, get_or}
use Rattle.std.specs.Prelude.{encode_utf8_all}
use Rattle.std.specs.List.{flat_map}
use Rattle.ale_graph.specs.Structures.{type_of, count}
use Rattle.ale_print.specs.Texts.{line_text}
use Rattle.ale_print.specs.Steps.{are_in}
use Rattle.ale_print.proofs.text.push_lines.Given as goal

abbrev pub invariant-loop-line : goal.invariant-loop-line
invariant-loop-line l =
    (are_in (count l.g) (length l.sig.features) (drop l.line-index l.lines) ≡ true)
    × (string_bytes l.out ++ encode_utf8_all (flat_map (line_text l.sig l.names (type_of l.g) (λ n. get_or l.tags n 0)) (drop l.line-index l.lines))
    ≡ string_bytes l.fn.out ++ encode_utf8_all (flat_map (line_text l.sig l.names (type_of l.g) (λ n. get_or l.tags n 0)) l.lines))
