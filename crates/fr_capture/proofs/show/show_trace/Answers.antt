use Rattle.fr_capture.specs.Shows.{text_of}
use Rattle.fr_capture.proofs.ShowLemmas.{shows_form, ends_form, line_form}
use Rattle.fr_capture.proofs.show.show_trace.Goals as goal

pub returns-clause-found : goal.returns-clause-found
returns-clause-found g c =
    shows_form (text_of c.args.form) (g.R.Read.remaining c.args.reader.now) (g.W.Write.contents c.args.writer.now)
    (g.W.Write.contents c.write_form.new.writer)
    c.in_ok-interface.interface c.write_form.result c.in_ok-interface.ensures.found c.write_form.ensures.written
    c.write_form.ensures.refused

pub returns-clause-read : goal.returns-clause-read
returns-clause-read g c =
    ends_form (text_of c.args.form c.in_ok-interface.interface) (g.R.Read.remaining c.args.reader.now)
    (g.R.Read.remaining c.interface_of.new.reader)
    (g.W.Write.contents c.args.writer.now) (g.W.Write.contents c.write_form.new.writer)
    c.in_ok-interface.interface c.write_form.result c.in_ok-interface.ensures.read c.in_ok-interface.ensures.found
    c.write_form.ensures.refused

pub returns-clause-line : goal.returns-clause-line
returns-clause-line g c =
    line_form (text_of c.args.form c.in_ok-interface.interface) (g.R.Read.remaining c.args.reader.now)
    (g.W.Write.contents c.args.writer.now)
    (g.W.Write.contents c.write_form.new.writer) c.write_form.result c.write_form.ensures.refused
