use Rattle.std.proofs.Common.{◌≡◌, ◌++◌, ◌-◌, ap, ℕ, List, length, drop, replicate}
use Rattle.std.proofs.lemmas.List.{drop-replicate}
use Rattle.machine.proofs.making.fresh_memory.Goals as goal

pub returns : goal.returns
returns c =
    let m = c.args.memory.now in
    let zeros : drop (length m) (replicate 256 0) ≡ replicate (256 - length m) 0 = drop-replicate (length m) 256 0 in
    rw c.copy_from_slice.ensures.after (ap (λ (l : List ℕ). m ++ l) zeros)
