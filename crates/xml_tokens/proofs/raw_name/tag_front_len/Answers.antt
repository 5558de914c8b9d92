use Rattle.std.proofs.Common.{◌≡◌, ◌<◌, length, chars, arith}
use Rattle.xml_tokens.proofs.NameLemmas.{bare_size, prefixed_size}
use Rattle.xml_tokens.proofs.raw_name.tag_front_len.Goals as goal

pub returns-then-prefix-eq0-clause-exact : goal.returns-then-prefix-eq0-clause-exact
returns-then-prefix-eq0-clause-exact c =
    let prefix = chars c.args.name.now.prefix.now in
    let none : length prefix ≡ 0 = omega (arith, c.count-prefix.ensures.exact, c.if-prefix-eq0.true) in
    omega (arith, bare_size prefix (chars c.args.name.now.local.now) none, c.count-local.ensures.exact)

pub returns-clause-exact : goal.returns-clause-exact
returns-clause-exact c =
    let prefix = chars c.args.name.now.prefix.now in
    let some : 0 < length prefix = omega (arith, c.count-prefix.ensures.exact, c.if-prefix-eq0.false) in
    omega (arith, prefixed_size prefix (chars c.args.name.now.local.now) some, c.count-prefix.ensures.exact, c.count-local.ensures.exact)
