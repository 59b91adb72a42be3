use Rattle.std.proofs.Common.{arith}
use Rattle.byte_list.proofs.ByteLaws.{bytes_range}
use Rattle.page_text.proofs.Writes.{body_long}
use Rattle.std.proofs.Common.{◌-◌, length}
use Rattle.page_text.proofs.sealing.seal_bytes.Goals as goal

pub returns : goal.returns
returns c =
    let o = c.args.page.now in
    record {
      sized = c.requires.sized;
      fits = c.requires.fits;
      keyed = c.requires.keyed.1;
      body_long = body_long o (omega arith);
      body_bytes = bytes_range 38 (length o - 8 - 38) o c.known_page.ensures.bytes;
      kind_fits = c.known_fields.ensures.kind;
      lsn_fits = omega arith;
      version_fits = omega arith;
      written = c.write_text.ensures;
    }
