use Rattle.std.proofs.Common.{◌≡◌, length, Some, sym, ap, ◌∙◌, arith}
use Rattle.std.proofs.lemmas.Result.{MatchResult-from_err}
use Rattle.message.specs.declared.stop.Stop.TheVariants.{FileTooLong}
use Rattle.exchange.specs.Checks.{refused, loads}
use Rattle.exchange.specs.Files.{file_bytes}
use Rattle.exchange.specs.Rules.{is_fit}
use Rattle.exchange.specs.Views.{exchange_of}
use Rattle.exchange.proofs.Fitting.{test_from_fit}
use Rattle.exchange.proofs.Loads.{lossless, loads_short, loads_long, read_whole, refused_unfit}
use Rattle.exchange.proofs.store.Store.load.Goals as goal

pub returns-then-file-gt-LONGEST_FILE-clause-exactly : goal.returns-then-file-gt-LONGEST_FILE-clause-exactly
returns-then-file-gt-LONGEST_FILE-clause-exactly c = refused_unfit c.args.file.now FileTooLong 0 (loads_long c.args.file.now (omega (arith, c.if-file-gt-LONGEST_FILE.true)))

pub returns-then-file-gt-LONGEST_FILE-clause-lossless : goal.returns-then-file-gt-LONGEST_FILE-clause-lossless
returns-then-file-gt-LONGEST_FILE-clause-lossless c = lossless

pub returns-in_err-read_fields-clause-exactly : goal.returns-in_err-read_fields-clause-exactly
returns-in_err-read_fields-clause-exactly c =
    let file = c.args.file.now in
    let e = c.in_err-read_fields.field-0.0 in
    let outcome : loads file ≡ refused e.stop e.place = loads_short file (omega (arith, c.if-file-gt-LONGEST_FILE.false)) ∙ sym c.in_err-read_fields.ensures.outcome in
    MatchResult-from_err c.from_residual.result _ _ c.from_residual.ensures.0 (λ _. refused_unfit file e.stop e.place outcome)

pub returns-in_err-read_fields-clause-lossless : goal.returns-in_err-read_fields-clause-lossless
returns-in_err-read_fields-clause-lossless c = lossless

pub invariant_of-self-2 : goal.invariant_of-self-2
invariant_of-self-2 c =
    let file = c.args.file.now in
    let y = exchange_of c.read_fields.new.draft in
    let kept = read_whole file y (omega (arith, c.if-file-gt-LONGEST_FILE.false)) c.in_ok-read_fields.ensures.outcome in
    let put = c.swap.ensures.x_after in
    record {
      fit = λ n e. ap (λ x. is_fit (exchange_of x)) put ∙ test_from_fit y kept.0;
      sized = λ n e. let size : n ≡ length file = cc in size ∙ (ap length (sym kept.1) ∙ ap (λ x. length (file_bytes (exchange_of x))) (sym put));
    }

pub returns-clause-exactly : goal.returns-clause-exactly
returns-clause-exactly c =
    let y = exchange_of c.read_fields.new.draft in
    let kept = read_whole c.args.file.now y (omega (arith, c.if-file-gt-LONGEST_FILE.false)) c.in_ok-read_fields.ensures.outcome in
    (y, kept.0, kept.1, ap (λ x. Some (exchange_of x)) c.swap.ensures.x_after)

pub returns-clause-lossless : goal.returns-clause-lossless
returns-clause-lossless c = lossless
