use Rattle.std.proofs.Common.{sym, arith}
use Rattle.std.proofs.lemmas.List.{take_rest}
use Rattle.listing.proofs.Fronts.{none_there, lock_alone, put_one, put_join, put_lock}
use Rattle.listing.proofs.listing.Listing.+put_front.Goals as goal

pub returns-in_default-clause-adds : goal.returns-in_default-clause-adds
returns-in_default-clause-adds t c = λ u rest fine is. absurd (none_there c.args.bytes.now (omega arith) u rest is)

pub returns-in_default-rest-clause-adds : goal.returns-in_default-rest-clause-adds
returns-in_default-rest-clause-adds t c = lock_alone c.args.bytes.now _ _ (take_rest c.args.bytes.now 1) (omega arith) (sym c.in-Lock.ensures.value)

pub returns-in_ok-push_str-in-Join-3-clause-adds : goal.returns-in_ok-push_str-in-Join-3-clause-adds
returns-in_ok-push_str-in-Join-3-clause-adds t c =
    put_join c.args.bytes.now (take_rest c.args.bytes.now 1) (sym c.in-Join.ensures.value) c.in_ok-push_str-in-Join.ensures.adds c.in_ok-right-in-Join.ensures.adds
    c.in_ok-push_str-in-Join-2.ensures.adds c.in_ok-after-in-Join.ensures.adds c.in_ok-push_str-in-Join-3.ensures.adds

pub returns-in_ok-put_byte-in-Lock-clause-adds : goal.returns-in_ok-put_byte-in-Lock-clause-adds
returns-in_ok-put_byte-in-Lock-clause-adds t c =
    put_lock c.args.bytes.now (take_rest c.args.bytes.now 1) (take_rest _ 1) (sym c.in-Lock.ensures.value) c.in_ok-push_str-in-Lock.ensures.adds c.in_ok-after-in-Lock.ensures.adds
    c.in_ok-push_str-in-Lock-2.ensures.adds c.in_ok-put_byte-in-Lock.ensures.adds

pub returns-in_ok-put_byte-in-Atom-clause-adds : goal.returns-in_ok-put_byte-in-Atom-clause-adds
returns-in_ok-put_byte-in-Atom-clause-adds t c = put_one c.args.bytes.now (take_rest c.args.bytes.now 1) (λ e. grind arith) (λ e. grind arith) c.in_ok-put_byte-in-Atom.ensures.adds
