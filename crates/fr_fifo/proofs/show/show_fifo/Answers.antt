use Rattle.fr_fifo.specs.FifoText.{fifo_text}
use Rattle.fr_capture.proofs.ShowLemmas.{shows_form, ends_form, line_form}
use Rattle.fr_fifo.proofs.show.show_fifo.Goals as goal

pub returns-clause-found : goal.returns-clause-found
returns-clause-found g c =
    shows_form fifo_text (g.R.Read.remaining c.args.reader.now) (g.W.Write.contents c.args.writer.now)
    (g.W.Write.contents c.write_lines.new.writer)
    c.in_ok-interface.interface c.write_lines.result c.in_ok-interface.ensures.found c.write_lines.ensures.written
    c.write_lines.ensures.refused

pub returns-clause-read : goal.returns-clause-read
returns-clause-read g c =
    ends_form (fifo_text c.in_ok-interface.interface) (g.R.Read.remaining c.args.reader.now)
    (g.R.Read.remaining c.interface_of.new.reader)
    (g.W.Write.contents c.args.writer.now) (g.W.Write.contents c.write_lines.new.writer)
    c.in_ok-interface.interface c.write_lines.result c.in_ok-interface.ensures.read c.in_ok-interface.ensures.found
    c.write_lines.ensures.refused

pub returns-clause-line : goal.returns-clause-line
returns-clause-line g c =
    line_form (fifo_text c.in_ok-interface.interface) (g.R.Read.remaining c.args.reader.now)
    (g.W.Write.contents c.args.writer.now)
    (g.W.Write.contents c.write_lines.new.writer) c.write_lines.result c.write_lines.ensures.refused
