-- What a held file is to contracts.
use Rattle.std.specs.Prelude.{List, map, string_bytes}
use Rattle.ale_base.specs.declared.held_file.HeldFile.{HeldFile}
use Rattle.ale_base.specs.HeldFiles.{NamedBytes}

-- its name's bytes, and its bytes
abbrev pub named_bytes : HeldFile → NamedBytes
named_bytes file = (string_bytes file.name, file.bytes.items)

abbrev pub all_named : List HeldFile → List NamedBytes
all_named files = map named_bytes files
