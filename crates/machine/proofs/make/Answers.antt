use Rattle.std.proofs.Common.{◌∙◌, sym, ap}
use Rattle.entry.specs.Refusals.{refused_as}
use Rattle.machine.proofs.Fits.{make_fit}
use Rattle.machine.proofs.make.Goals as goal

pub fresh-requires : goal.fresh-requires
fresh-requires c =
    let x = c.args in
    make_fit x.dims x.memory.now (sym c.test.ensures ∙ ap refused_as c.in_default.is)
