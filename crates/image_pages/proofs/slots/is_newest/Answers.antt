use Rattle.std.proofs.Common.{◌∙◌, ◌<◌, ◌≤◌, sym, arith}
use Rattle.std.proofs.lemmas.Bool.Decides.{nat_tests}
use Rattle.image_pages.proofs.CopyAges.{above_home, below_home, newest_of, not_newest, no_copies}
use Rattle.image_pages.proofs.slots.is_newest.Goals as goal

pub returns-then-is_page_text-clause-yes : goal.returns-then-is_page_text-clause-yes
returns-then-is_page_text-clause-yes c =
    λ test. let lt : c.be64_at.result < c.args.lsn = grind (arith, nat_tests) in let e = c.be64_at.ensures in
    above_home c.args.home.now c.args.double.now c.args.space c.args.number c.args.lsn (sym c.is_page_text.ensures ∙ c.if-is_page_text.true) (omega (arith, lt, e))

pub returns-then-is_page_text-clause-no : goal.returns-then-is_page_text-clause-no
returns-then-is_page_text-clause-no c =
    λ test. let le : c.args.lsn ≤ c.be64_at.result = grind (arith, nat_tests) in let e = c.be64_at.ensures in
    below_home c.args.home.now c.args.double.now c.args.space c.args.number c.args.lsn (sym c.is_page_text.ensures ∙ c.if-is_page_text.true) (omega (arith, le, e))

pub returns-in-Some-clause-yes : goal.returns-in-Some-clause-yes
returns-in-Some-clause-yes c =
    λ test. let le : c.in-Some.newest.lsn ≤ c.args.lsn = grind (arith, nat_tests) in
    newest_of c.args.home.now c.args.double.now c.args.space c.args.number c.args.lsn c.in-Some.newest (sym c.is_page_text.ensures ∙ c.if-is_page_text.false) c.in-Some.ensures le

pub returns-in-Some-clause-no : goal.returns-in-Some-clause-no
returns-in-Some-clause-no c =
    λ test. let lt : c.args.lsn < c.in-Some.newest.lsn = grind (arith, nat_tests) in
    not_newest c.args.home.now c.args.double.now c.args.space c.args.number c.args.lsn c.in-Some.newest (sym c.is_page_text.ensures ∙ c.if-is_page_text.false) c.in-Some.ensures lt

pub returns-in-None-clause-yes : goal.returns-in-None-clause-yes
returns-in-None-clause-yes c =
    λ test. no_copies c.args.home.now c.args.double.now c.args.space c.args.number c.args.lsn (sym c.is_page_text.ensures ∙ c.if-is_page_text.false) c.in-None.ensures
