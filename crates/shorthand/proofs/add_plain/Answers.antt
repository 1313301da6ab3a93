use Rattle.std.proofs.Common.{rules}
use Rattle.std.proofs.lemmas.Iterator.{YieldsList-from_map}
use Rattle.std.proofs.lemmas.Iterator.Adapters.{items_from_extend, YieldsList-from_bytes}
use Rattle.shorthand.specs.Shorthand.{plain_of}
use Rattle.shorthand.proofs.add_plain.Goals as goal

pub returns : goal.returns
returns c = let h = items_from_extend c.extend.result c.extend.ensures.ran (YieldsList-from_map _ plain_of (YieldsList-from_bytes c.args.text.now cc) c.map.ensures.closure (λ x r q k. search rules)) in search rules
