use Rattle.orders.proofs.asking.StandingRequest.ask.Goals as goal

pub returns-in-Jog : goal.returns-in-Jog
returns-in-Jog c g = rw c.in-Jog.is (rw (c.jog.ensures g) at c.go.ensures)

pub returns-in-Position : goal.returns-in-Position
returns-in-Position c g = rw c.in-Position.is (rw (c.position.ensures g) at c.go-in-Position.ensures)

pub returns-in-Relative : goal.returns-in-Relative
returns-in-Relative c g = rw c.in-Relative.is (rw (c.relative.ensures g) at c.go-in-Relative.ensures)
