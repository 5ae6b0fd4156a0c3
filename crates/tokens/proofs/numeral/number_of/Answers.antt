use Rattle.std.proofs.Common.{◌≡◌, ◌<◌, length, get_or, arith, rules}
use Rattle.std.proofs.lemmas.Slice.{first_rest}
use Rattle.tokens.proofs.Decimal.{zero_numeral, digital, digits_at, numeral_from_rest}
use Rattle.tokens.proofs.numeral.number_of.Goals as goal

pub returns-in_err-digit-in-len1-up : goal.returns-in_err-digit-in-len1-up
returns-in_err-digit-in-len1-up c =
    rw c.from_residual.ensures
    (λ n h. c.in_err-digit-in-len1-up.ensures (digits_at _ 0 (digital _ n h).all (digital _ n h).some))

pub returns-in-empty : goal.returns-in-empty
returns-in-empty c = λ n h.
    let none : length c.args.digits.now ≡ 0 = search rules in
    let some = (digital c.args.digits.now n h).some in omega arith

pub returns-in-48 : goal.returns-in-48
returns-in-48 c =
    let one : length c.args.digits.now ≡ 1 = search rules in
    let zero : get_or c.args.digits.now 0 0 ≡ 48 = search rules in
    zero_numeral c.args.digits.now one zero

pub returns-in-48-2 : goal.returns-in-48-2
returns-in-48-2 c = λ n h.
    let more : 1 < length c.args.digits.now = search rules in
    let zero : get_or c.args.digits.now 0 0 ≡ 48 = search rules in
    let one = (digital c.args.digits.now n h).lead zero in omega arith

pub returns-in_ok-digit-in-len1-up : goal.returns-in_ok-digit-in-len1-up
returns-in_ok-digit-in-len1-up c =
    let ds = c.args.digits.now in
    let some : 0 < length ds = search rules in
    let lead : get_or ds 0 0 ≡ 48 → ⊥ = search rules in
    let d = c.in_ok-digit-in-len1-up.ensures in
    numeral_from_rest ds _ _ _ _ (first_rest ds 0 some) (search rules) lead d.0 d.1 c.read_on.ensures

pub returns-in_default : goal.returns-in_default
returns-in_default c = λ n h. let few = (digital c.args.digits.now n h).few in omega arith
