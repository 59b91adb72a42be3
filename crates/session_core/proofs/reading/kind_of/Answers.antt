use Rattle.std.proofs.Common.{rules}
use Rattle.page_pool.specs.Pages.{plain_page}
use Rattle.session_core.proofs.reading.kind_of.Goals as goal

pub returns-then-is_used : goal.returns-then-is_used
unfolding plain_page
returns-then-is_used c = search rules
