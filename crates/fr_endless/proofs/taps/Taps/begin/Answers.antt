use Rattle.fr_capture.specs.Pcap.{file_header}
use Rattle.fr_endless.proofs.TapLemmas.{header_flushed}
use Rattle.fr_endless.proofs.taps.Taps.begin.Goals as goal

pub returns : goal.returns
returns g c =
    header_flushed c.args.self.now c.add_header.new.self c.flush.new.self file_header c.add_header.ensures
    c.flush.ensures
