use Rattle.std.proofs.Common.{◌≡◌, length, arith}
use Rattle.ale_macro.specs.Templates.{template_data}
use Rattle.ale_expansion.specs.declared.frame.Frame.{Frame}
use Rattle.ale_expansion.proofs.Walks.{is_frame, entry_law, entry_kept, entry_is}
use Rattle.ale_expansion.proofs.walk.Walk.enter.Goals as goal

pub path-requires : goal.path-requires
path-requires c = record { there = (is_frame c.args.self.now c.args.frame c.index-here.result.now c.requires.grounded c.requires.inside c.index-here.ensures).0 }

pub returns-clause-kept : goal.returns-clause-kept
returns-clause-kept c =
    let w = c.args.self.now in
    let g : Frame = record { path = c.in_ok-path.path; args = c.args.args; outer = c.args.frame } in
    let body = template_data c.body.result.now in
    let law = entry_law w c.path.new.self.paths c.args.number c.args.callee c.index-here.result.now g body c.lists-lists.ensures.library c.requires.grounded c.requires.inside c.index-here.ensures c.requires.known c.in_ok-path.ensures.within c.in_ok-path.ensures.path c.in_ok-path.ensures.more c.body.ensures in
    let count : c.len-inner.result ≡ length w.frames.items = omega (arith, c.len-inner.ensures, w.frames.ok.0) in
    let kept = entry_kept w c.path.new.self.paths c.args.number c.args.callee c.len-inner.result g body c.push.new.self.items law c.in_ok-push.ensures.items count in
    record {
      grounded = record { frames = kept.0; rests = kept.1 };
      looks = (kept.2, law.known);
    }

pub returns-clause-value : goal.returns-clause-value
returns-clause-value c =
    let w = c.args.self.now in
    let g : Frame = record { path = c.in_ok-path.path; args = c.args.args; outer = c.args.frame } in
    let body = template_data c.body.result.now in
    let law = entry_law w c.path.new.self.paths c.args.number c.args.callee c.index-here.result.now g body c.lists-lists.ensures.library c.requires.grounded c.requires.inside c.index-here.ensures c.requires.known c.in_ok-path.ensures.within c.in_ok-path.ensures.path c.in_ok-path.ensures.more c.body.ensures in
    let count : c.len-inner.result ≡ length w.frames.items = omega (arith, c.len-inner.ensures, w.frames.ok.0) in
    entry_is w c.path.new.self.paths c.path.new.self.variables c.args.number c.args.callee c.len-inner.result g body c.push.new.self.items law c.in_ok-push.ensures.items count c.in_ok-path.ensures.variables
