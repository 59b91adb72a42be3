use Rattle.plain_engine.proofs.Texts.{put_joined}
use Rattle.plain_engine.proofs.text.push_put.Goals as goal

pub returns : goal.returns
returns c =
    let joined = put_joined c.args.text.now.items c.args.space c.args.page c.args.at c.args.bytes.now in
    rw (c.in_ok-extend_from_slice-3.ensures.items, c.in_ok-extend_from_slice-2.ensures.items, c.in_ok-extend_from_slice.ensures.items, c.in_ok-push_page.ensures, c.bytes.ensures, c.to_be_bytes-2.ensures, c.len.ensures, c.to_be_bytes.ensures) joined
