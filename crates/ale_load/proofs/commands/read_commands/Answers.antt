use Rattle.std.proofs.Common.{map}
use Rattle.ale_load.specs.Views.{loaded_data, query_data}
use Rattle.ale_load.proofs.Answering.{reads_found, reads_as, reads_fit}
use Rattle.ale_load.proofs.commands.read_commands.Goals as goal

pub returns-clause-found : goal.returns-clause-found
returns-clause-found c = reads_found (λ v. map query_data v.items) c.commands_law.ensures.reads (loaded_data c.args.loaded.now) c.args.bytes.now c.read_in.result c.read_in.ensures

pub returns-clause-only : goal.returns-clause-only
returns-clause-only c = λ answer are. reads_as (λ v. map query_data v.items) c.commands_law.ensures.reads (loaded_data c.args.loaded.now) c.args.bytes.now c.read_in.result c.read_in.ensures answer are

pub returns-clause-fit : goal.returns-clause-fit
returns-clause-fit c = reads_fit (λ v. map query_data v.items) c.commands_law.ensures.reads (loaded_data c.args.loaded.now) c.args.bytes.now c.commands_law.ensures.fit c.requires c.read_in.result c.read_in.ensures
