-- The characters that were collected are those of the text; the rest follows from what `scan` gives.
use Rattle.std.proofs.Common.{◌≡◌, List, ap, ◌∙◌, sym, subst, rules, arith, length, Vec, Global}
use Rattle.std.specs.Str.{chars}
use Rattle.std.proofs.lemmas.Str.{chars_from_encodes, encodes-chars}
use Rattle.ale_token.specs.declared.token.Token.{Token}
use Rattle.ale_token.specs.Answers.{Gives}
use Rattle.ale_token.specs.Tokens.{byte_length, tokens_of}
use Rattle.ale_token.proofs.Reading.{length-encodes, Reads-tokens_from, BadAt-tokens_from}
use Rattle.ale_token.proofs.Clauses.{Gives-found, Gives-cause, Gives-in_order, Gives-stand}
use Rattle.ale_token.proofs.scan.tokens.Goals as goal

pub scan-requires : goal.scan-requires
scan-requires c =
    let same : c.as_slice.result.now ≡ chars c.args.text.now = search (rules, chars_from_encodes) in
    let bytes : byte_length c.as_slice.result.now ≡ length c.args.text.now =
    ap byte_length same ∙ sym (length-encodes (chars c.args.text.now)) ∙ ap length (encodes-chars c.args.text.now c.utf8.text) in
    omega arith

pub returns : goal.returns
returns c =
    let view : Vec Token Global → List Token = λ v. v.items in
    let same : c.as_slice.result.now ≡ chars c.args.text.now = search (rules, chars_from_encodes) in
    let gives : Gives view c.scan.result (tokens_of (chars c.args.text.now)) =
    subst (λ cs. Gives view c.scan.result (tokens_of cs)) same c.scan.ensures in
    record {
      exact = gives;
      found = Gives-found view c.scan.result (chars c.args.text.now) gives;
      only = λ ts r. subst (Gives view c.scan.result) (Reads-tokens_from r) gives;
      cause = Gives-cause view c.scan.result (chars c.args.text.now) gives;
      refused = λ p b. subst (Gives view c.scan.result) (BadAt-tokens_from b) gives;
      stand = Gives-stand view c.scan.result c.args.text.now c.utf8.text gives;
      in_order = Gives-in_order view c.scan.result (chars c.args.text.now) gives;
    }
