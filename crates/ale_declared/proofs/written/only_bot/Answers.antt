use Rattle.std.proofs.Common.{refl}
use Rattle.ale_declared.proofs.NameLemmas.{bot_chars}
use Rattle.ale_declared.proofs.written.only_bot.Goals as goal

pub returns : goal.returns
returns c =
    rw (c.in_ok-add.ensures.added, c.new-names.ensures, c.of-bot.ensures, c.in_ok-from_str.ensures.ok, bot_chars) refl
