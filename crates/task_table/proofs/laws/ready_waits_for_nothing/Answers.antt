use Rattle.task_table.proofs.model.Frames as frames
use Rattle.task_table.proofs.laws.ready_waits_for_nothing.Goals as goal

pub returns-clause-idle : goal.returns-clause-idle
returns-clause-idle c = λ s i h. frames.idle-ready s i h

pub returns-clause-ready_same : goal.returns-clause-ready_same
returns-clause-ready_same c = λ i s u same h. frames.ready-same i s u same h

pub returns-clause-idle_same : goal.returns-clause-idle_same
returns-clause-idle_same c = λ i s u same h. frames.idle-same i s u same h

pub returns-clause-noted : goal.returns-clause-noted
returns-clause-noted c = λ j n t. frames.same_at-noted j n t

pub returns-clause-stored : goal.returns-clause-stored
returns-clause-stored c = λ j on at bytes t. frames.same_at-stored j on at bytes t

pub returns-clause-current : goal.returns-clause-current
returns-clause-current c = λ j i t. frames.same_at-current j i t

pub returns-clause-given : goal.returns-clause-given
returns-clause-given c = λ i j values t h. frames.idle-given i j values t h

pub returns-clause-posted : goal.returns-clause-posted
returns-clause-posted c = λ i j bits t h. frames.idle-posted i j bits t h

pub returns-clause-timer : goal.returns-clause-timer
returns-clause-timer c = λ i j timer t h. frames.idle-timer i j timer t h

pub returns-clause-line : goal.returns-clause-line
returns-clause-line c = λ i k line t h. frames.idle-line i k line t h
