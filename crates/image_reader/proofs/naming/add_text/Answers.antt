use Rattle.std.proofs.Common.{◌≡◌}
use Rattle.image_reader.proofs.NameLaws.{on_ok, text_adds, text_clear}
use Rattle.image_reader.proofs.naming.add_text.Goals as goal

pub returns-then-version-eq0 : goal.returns-then-version-eq0
returns-then-version-eq0 c = text_clear c.args.id _ _ _ c.be32_at-version.ensures c.if-version-eq0.true

pub returns : goal.returns
returns c = on_ok c.add.result _ _ (text_adds c.args.id _ _ _ _ c.be32_at-version.ensures c.if-version-eq0.false) c.add.ensures
