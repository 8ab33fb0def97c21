use Rattle.kernel_tests.proofs.Opened.{some_stands, some_held}
use Rattle.kernel_tests.proofs.board.with_script.Goals as goal

pub returns-clause-stood : goal.returns-clause-stood
returns-clause-stood g c = some_stands _ _ _ c.open.result c.open.ensures.stands

pub returns-clause-first : goal.returns-clause-first
returns-clause-first g c = some_held _ _ c.open.result c.facts.ensures.facts.sizes.some_flash c.open.ensures.stands
