-- Each name, by its variant.
use Rattle.listing.proofs.lines.name_field.Goals as goal

pub returns-in-Value : goal.returns-in-Value
returns-in-Value c = rw c.in-Value.is

pub returns-in-Done : goal.returns-in-Done
returns-in-Done c = rw c.in-Done.is

pub returns-in-Success : goal.returns-in-Success
returns-in-Success c = rw c.in-Success.is

pub returns-in-Failure : goal.returns-in-Failure
returns-in-Failure c = rw c.in-Failure.is

pub returns-in-True : goal.returns-in-True
returns-in-True c = rw c.in-True.is

pub returns-in-False : goal.returns-in-False
returns-in-False c = rw c.in-False.is

pub returns-in-Aborted : goal.returns-in-Aborted
returns-in-Aborted c = rw c.in-Aborted.is

pub returns-in-Refused : goal.returns-in-Refused
returns-in-Refused c = rw c.in-Refused.is
